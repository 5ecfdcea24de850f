-- From the parts of a text to the answer: what stops it is 18 with its length; a text read to its end gives its document's answer. Assumes nothing.
use Prim.Native.Nat.{ℕ, ◌+◌, ◌-◌, ◌*◌, ◌≤◌, ◌<◌, ◌^◌}
use native.Mathlib.Omega.{arith}
use mathlib.Core.Path.{◌≡◌, refl, sym, ap, ap₂, ◌∙◌, subst}
use mathlib.Core.Bool.{Bool, true, false, ◌&&◌}
use Rattle.std.specs.Prelude.{Ok, Err}
use mathlib.Core.List.{List, [], ◌∷◌, ◌++◌, map}
use lib.Dec.{ltb, leb}
use lib.ListN.{length, take, replicate, length-map}
use lib.Pow.{pow_mono}
use Rattle.lists.specs.Lists.{below, flat}
use Rattle.lists.proofs.Bools.{and_l, and_r, le-true}
use Rattle.refusals.specs.declared.Refusal.TheVariants.{OutOfRange, NotHanoi, TooManyMarkSets}
use Rattle.policy.specs.declared.Policy.{Policy}
use Rattle.policy.specs.Making.{from_parts}
use Rattle.mark_sets.specs.declared.Colouring.{Colouring}
use Rattle.mark_sets.specs.MarkSets.{firsts, colour_in, union_at, Coloured}
use Rattle.mark_sets.proofs.Unions.{union-filled}
use Rattle.hanoi.specs.Documents.{Formula, Edge, Document, target_of, letters, lawful, formed}
use Rattle.hanoi.specs.Meaning.{holds, filled, mark_set, edges_of, mark_sets, colour_of, named, policy_of}
use Rattle.hanoi.specs.Answers.{Answer, refused, answer_of, Answers}
use Rattle.hanoi.specs.Offers.{between, run}
use Rattle.hanoi.specs.Reader.{Head, fresh, operand, body, finished, document_of, offers, first, alive_for}
use Rattle.hanoi.specs.Reading.{answer_at, hanoi_of}
use Rattle.hanoi.proofs.Digits.{le_yes, le-no}
use Rattle.hanoi.proofs.Taking.{lawful-parts}
use Rattle.hanoi.proofs.Answering.{said-back, answers}
use Rattle.hanoi.proofs.Documents.{edges-long}
use Rattle.hanoi_tokens.specs.declared.Stop.{Stop}
use Rattle.hanoi_tokens.specs.Moves.{Moves, Stops}
use Rattle.hanoi_tokens.proofs.Moves.{moves-on, moves-stops}
use Rattle.hanoi_formula.specs.declared.Valued.{Valued}
use Rattle.hanoi_formula.specs.Formula.{ReadsFormula}
use Rattle.hanoi_header.specs.declared.Header.{Header}
use Rattle.hanoi_header.specs.Header.{ReadsHeader}
use Rattle.hanoi_body.specs.declared.Body.{Body}
use Rattle.hanoi_body.specs.Body.{Counts, ReadsBody}
use Rattle.hanoi_family.specs.Family.{named_below, IsFamily}

-- ---- the answer
pub stopped : (text : List ℕ) (n : ℕ) → Stops text 0 first n → refused NotHanoi n ≡ hanoi_of text
unfolding hanoi_of
stopped text n s =
    let e : alive_for text first ≡ n = omega (arith, s.alive) in
    sym (s.unanswered (refused NotHanoi (alive_for text first)) ∙ ap (refused NotHanoi) e)

ended : (text : List ℕ) (bar : Bool) (d : Document) → run offers first text ≡ between bar (finished d) → hanoi_of text ≡ answer_of d
unfolding hanoi_of
ended text bar d e = ap (answer_at (refused NotHanoi (alive_for text first))) e

-- ---- the policy
take-front : {A : Type 0} (l r : List A) → take (length l) (l ++ r) ≡ l
take-front [] r = refl
take-front (x ∷ l) r = ap (λ (t : List _). x ∷ t) (take-front l r)

map-again : {A B C : Type 0} (f : A → B) (g : B → C) (l : List A) → map g (map f l) ≡ map (λ x. g (f x)) l
map-again f g [] = refl
map-again f g (x ∷ l) = ap (λ (t : List _). g (f x) ∷ t) (map-again f g l)

map_same : {A B : Type 0} (f g : A → B) → ((x : A) → f x ≡ g x) → (l : List A) → map f l ≡ map g l
map_same f g h [] = refl
map_same f g h (x ∷ l) = ap₂ (λ (a : _) (t : List _). a ∷ t) (h x) (map_same f g h l)

pub no_header : (text : List ℕ) (e : Stop) → ReadsHeader text (Err e) → refused NotHanoi e.at ≡ hanoi_of text
no_header text e k = stopped text e.at k.stops

module _ (text : List ℕ) (r : Header) (k : ReadsHeader text (Ok r)) where
  names : List (List ℕ)
  names = k.moves.0

  head : Head
  head = record { states = r.states; start = r.start; names = names; sets = r.sets }

  read_head : Moves text 0 first r.at (between false (operand head [] fresh))
  unfolding head names
  read_head = k.moves.2

  head-sets : head.sets ≡ r.sets
  unfolding head
  head-sets = refl

  pub head-within : r.at ≤ length text
  head-within = read_head.within

  pub no-formula : (lanes : List ℕ) (e : Stop) → ReadsFormula text r.at r.sets 0 lanes (Err e) → refused NotHanoi e.at ≡ hanoi_of text
  no-formula lanes e q = stopped text e.at (moves-stops text read_head (q.stops head head-sets))

  module _ (lanes : List ℕ) (v : Valued) (q : ReadsFormula text r.at r.sets 0 lanes (Ok v)) where
    formula : Formula
    formula = (q.moves head head-sets).0

    read-formula : Moves text 0 first v.at (between false (body head formula))
    unfolding formula
    read-formula = moves-on text read_head (q.moves head head-sets).1

    pub formula-within : v.at ≤ length text
    formula-within = read-formula.within

    module _ (count : ℕ) (c : count ≡ 2 ^ r.names) (fits : Bool) where
      counts : Counts head r.states count r.sets
      unfolding head names
      counts = record { states_are = refl; letters_are = ap (λ (n : ℕ). 2 ^ n) k.moves.1 ∙ sym c; sets_are = refl }

      pub no_body : (e : Stop) → ReadsBody text v.at r.states count r.sets fits (Err e) → refused NotHanoi e.at ≡ hanoi_of text
      no_body e z = stopped text e.at (moves-stops text read-formula (z.stops head formula counts))

      module _ (b : Body) (z : ReadsBody text v.at r.states count r.sets fits (Ok b)) where
        rows : List (List Edge)
        rows = (z.finishes head formula counts).0

        bar : Bool
        bar = (z.finishes head formula counts).1

        d : Document
        d = document_of head formula rows

        whole : run offers first text ≡ between bar (finished d)
        unfolding rows bar d
        whole = read-formula.runs ∙ (z.finishes head formula counts).2

        answer_is : hanoi_of text ≡ answer_of d
        answer_is = ended text bar d whole

        d-states : d.states ≡ r.states
        unfolding d document_of head
        d-states = refl

        d-start : r.start ≡ d.start
        unfolding d document_of head
        d-start = refl

        d-letters : letters d ≡ count
        unfolding d document_of letters
        d-letters = counts.letters_are

        small_is : leb d.states 16 && leb (d.states * letters d) 64 ≡ leb r.states 16 && leb (r.states * count) 64
        small_is = ap₂ (λ (x y : ℕ). leb x 16 && leb (x * y) 64) d-states d-letters

        pub over : fits ≡ leb r.states 16 && leb (r.states * count) 64 → fits ≡ false → refused OutOfRange 0 ≡ hanoi_of text
        unfolding answer_of
        over e f = sym (answer_is ∙ (rw (small_is ∙ (sym e ∙ f)) refl))

        is_lawful : lawful d ≡ true
        is_lawful = (said-back text bar d whole).lawful_is

        es : List Edge
        es = edges_of d

        es-are : es ≡ flat rows
        unfolding es edges_of d document_of
        es-are = refl

        es-long : length es ≡ r.states * count
        unfolding es
        es-long = edges-long d is_lawful ∙ ap₂ (λ (x y : ℕ). x * y) d-states d-letters

        sets : List ℕ
        sets = map mark_set es

        module _ (e : fits ≡ leb r.states 16 && leb (r.states * count) 64) (t : fits ≡ true) where
          marks_are : take (r.states * count) b.marks ≡ sets
          unfolding sets rows
          marks_are =
              ap₂ (λ (n : ℕ) (l : List ℕ). take n l) (sym es-long ∙ sym (length-map es mark_set)) (((z.finishes head formula counts).3 t).1 ∙ ap (λ (l : List Edge). filled 64 (map mark_set l)) (sym es-are)) ∙
              take-front (map mark_set es) (replicate (64 - length (map mark_set es)) 0)

          within : leb d.states 16 && leb (d.states * letters d) 64 ≡ true
          within = small_is ∙ (sym e ∙ t)

          mark-sets : mark_sets d ≡ firsts sets
          unfolding mark_sets sets es
          mark-sets = refl

          pub many : 8 < length (firsts (take (r.states * count) b.marks)) → refused TooManyMarkSets 0 ≡ hanoi_of text
          unfolding answer_of
          many l =
              let m : 8 < length (firsts sets) = subst (λ (x : List ℕ). 8 < length (firsts x)) marks_are l in
              sym (answer_is ∙ (rw (within, ap (λ (x : List ℕ). leb (length x) 8) mark-sets ∙ le-no (length (firsts sets)) 8 m) refl))

          module _ (g : Colouring) (y : Coloured (take (r.states * count) b.marks) g) (family : List Bool) (i : IsFamily text r.at r.sets g.sets (2 ^ g.count) family) where
            coloured : Coloured sets g
            coloured = subst (λ (l : List ℕ). Coloured l g) marks_are y

            count_is : g.count ≡ length (mark_sets d)
            count_is = coloured.count_is ∙ ap length (sym mark-sets)

            target_is : b.target ≡ filled 64 (map target_of (edges_of d))
            unfolding rows es
            target_is = ((z.finishes head formula counts).3 t).0 ∙ ap (λ (x : List Edge). filled 64 (map target_of x)) (sym es-are)

            colours_are : map (colour_in sets) sets ≡ map (colour_of d) (edges_of d)
            unfolding sets es colour_of
            colours_are = map-again mark_set (colour_in (map mark_set (edges_of d))) (edges_of d)

            colour-is : g.colour ≡ filled 64 (map (colour_of d) (edges_of d))
            colour-is =
                coloured.colours_are ∙
                ap₂ (λ (x : List ℕ) (n : ℕ). x ++ replicate (64 - n) 0) colours_are (sym (length-map sets (colour_in sets)) ∙ ap length colours_are)

            formed_is : formed r.sets d.formula ≡ true
            unfolding d document_of head
            formed_is = (lawful-parts d is_lawful).formed_is

            union-is : (n : ℕ) → union_at g.sets n 8 ≡ union_at (mark_sets d) n (length (mark_sets d))
            union-is n =
                let x : 8 ≡ length (firsts sets) + (8 - length (firsts sets)) = omega (arith, coloured.few) in
                ap₂ (λ (a : List ℕ) (m : ℕ). union_at a n m) coloured.sets_are x ∙
                (union-filled (firsts sets) (8 - length (firsts sets)) n ∙ ap (λ (a : List ℕ). union_at a n (length a)) (sym mark-sets))

            named-is : (n : ℕ) → named_below d.formula g.sets (2 ^ g.count) n ≡ named d n
            unfolding named
            named-is n = ap₂ (λ (a u : ℕ). ltb 0 n && ltb n a && holds u d.formula) (ap (λ (x : ℕ). 2 ^ x) count_is) (union-is n)

            family_is : family ≡ map (named d) (below 256)
            family_is =
                i.is head d bar head-sets (sym read_head.runs ∙ whole) formed_is ∙ map_same (named_below d.formula g.sets (2 ^ g.count)) (named d) named-is (below 256)

            policy_is : from_parts (record { states = r.states; letters = count; colours = g.count; initial = r.start }) 0 b.target g.colour family ≡ policy_of d
            unfolding policy_of
            policy_is =
                let a = sym d-states in let o = sym d-letters in
                (λ j. from_parts (record { states = a j; letters = o j; colours = count_is j; initial = d-start j }) 0 (target_is j) (colour-is j) (family_is j))

            pub read_is : Ok (from_parts (record { states = r.states; letters = count; colours = g.count; initial = r.start }) 0 b.target g.colour family) ≡ hanoi_of text
            unfolding answer_of
            read_is =
                ap (λ (p : Policy). Ok p) policy_is ∙
                sym (answer_is ∙ (rw (within, ap (λ (x : List ℕ). leb (length x) 8) mark-sets ∙ le_yes (length (firsts sets)) 8 coloured.few) refl))

-- what is computed means what the documents say
pub meant : (text : List ℕ) (r : Answer) → r ≡ hanoi_of text → Answers text r
meant text r e = subst (Answers text) (sym e) (answers text)

-- ---- limits
pub letters_few : (n : ℕ) → n ≤ 3 → 2 ^ n ≤ 8
letters_few n h = pow_mono {i = n} {j = 3} h

pub limits-kept : (fits : Bool) (states letters : ℕ) → fits ≡ leb states 16 && leb (states * letters) 64 → fits ≡ true → (states ≤ 16) × (states * letters ≤ 64)
limits-kept fits states letters e t =
    let x = sym e ∙ t in (le-true states 16 (and_l (leb states 16) (leb (states * letters) 64) x), le-true (states * letters) 64 (and_r (leb states 16) (leb (states * letters) 64) x))
