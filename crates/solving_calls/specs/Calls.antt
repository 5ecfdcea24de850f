-- What the calls that solve the supervisor's game return and write: the number, the counts, the nine tables and, from command bytes, the offset.
use Rattle.std.specs.Prelude.{ℕ, ◌≡◌, List}
use Rattle.policy.specs.declared.Policy.{Policy}
use Rattle.reading.specs.Reading.{reading_of, offset_of, policy_read, number_of as read_number_of}
use Rattle.builder.specs.Tables.{Tables, Hold, counts_of, number_of}
use Rattle.answers.specs.Answers.{first_of, offset_after}
use Rattle.solving.specs.Solving.{solving_of, seven_after, winners_after, LettersAfter}

-- the owners of the states, and the tables at entry
module _ (owners : List ℕ) (t : Tables) (winners letters : List ℕ) where
  -- the counts and the nine tables at exit
  pub record AfterSolving (p : Policy) (counts : List ℕ) (exit : Tables) (winners_exit letters_exit : List ℕ) : Type 0 where
    pub counts_are : counts ≡ counts_of (solving_of p owners t winners letters)
    pub tables_are : Hold (seven_after p owners t winners letters) exit.masks exit.parents exit.node_priorities exit.sources exit.leaves exit.targets exit.priorities
    pub winners_are : winners_exit ≡ winners_after p owners t winners letters
    pub letters_are : LettersAfter p owners t winners letters letters_exit

  -- of a policy: the number that is returned, and the rest
  pub record SolvesRecord (p : Policy) (number : ℕ) (counts : List ℕ) (exit : Tables) (winners_exit letters_exit : List ℕ) : Type 0 where
    pub number_is : number ≡ number_of (solving_of p owners t winners letters)
    pub solved : AfterSolving p counts exit winners_exit letters_exit

  -- of command bytes: the first of two refusals, the policy read solved, and the offset
  pub record SolvesBytes (bytes : List ℕ) (number : ℕ) (counts : List ℕ) (exit : Tables) (winners_exit letters_exit : List ℕ) (offset : ℕ) : Type 0 where
    pub number_is : number ≡ first_of (read_number_of (reading_of bytes)) (number_of (solving_of (policy_read (reading_of bytes)) owners t winners letters))
    pub solved : AfterSolving (policy_read (reading_of bytes)) counts exit winners_exit letters_exit
    pub offset_is : offset ≡ offset_after (read_number_of (reading_of bytes)) (number_of (solving_of (policy_read (reading_of bytes)) owners t winners letters)) (offset_of (reading_of bytes))
