-- A text, the document that it says, and its policy, by computation.
use mathlib.Core.Path.{◌≡◌, refl}
use mathlib.Core.Bool.{true, false}
use mathlib.Core.List.{List, [], ◌∷◌, ◌++◌}
use lib.ListN.{replicate}
use Rattle.masks.specs.Masks.{has, insert, set_of}
use Rattle.mark_sets.specs.MarkSets.{firsts, colour_in, union_at}
use Rattle.hanoi.specs.Texts.{ascii, white, goes_on, Token, decimal_in, decimal, quotable, quotable_in, Spaced, apart, written}
use Rattle.hanoi.specs.Documents.{truth, inf, fin, group, both, either, plain, marked, Document, tokens_of, formed, different, letters, lawful_edge, lawful_row, lawful, Says}
use Rattle.hanoi.specs.Meaning.{holds, mark_set, edges_of, mark_sets, colour_of, named, policy_of}

abbrev d : Document
d = record {
  states = 2;
  start = 1;
  names = (97 ∷ []) ∷ [];
  sets = 2;
  formula = both (inf 0) (group (either (fin 1) (truth false)));
  rows = (plain 1 ∷ marked 0 (0 ∷ []) ∷ []) ∷ (marked 1 [] ∷ marked 0 (1 ∷ 0 ∷ []) ∷ []) ∷ [];
}

-- a space before every token
abbrev spaced : List Token → List Spaced
spaced [] = []
spaced (t ∷ ts) = record { gap = 32 ∷ []; token = t } ∷ spaced ts

says : Says (ascii " HOA: v1 States: 2 Start: 1 AP: 1 \"a\" Acceptance: 2 Inf ( 0 ) & ( Fin ( 1 ) | f ) --BODY-- State: 0 1 0 { 0 } State: 1 1 { } 0 { 1 0 } --END--\n") d
unfolding white goes_on decimal_in decimal quotable_in quotable apart written tokens_of formed different letters lawful_edge lawful_row lawful
says = record {
  lawful_is = refl;
  spaced = spaced (tokens_of d);
  tokens_are = refl;
  gaps_are = refl;
  last = 10 ∷ [];
  last_white = refl;
  text_is = refl;
}

policy : policy_of d ≡ record { states = 2; letters = 2; colours = 3; initial = 1; target = (1 ∷ 0 ∷ 1 ∷ 0 ∷ []) ++ replicate 60 0; colour = (0 ∷ 1 ∷ 0 ∷ 2 ∷ []) ++ replicate 60 0; family = (false ∷ false ∷ true ∷ true ∷ []) ++ replicate 252 false; quiet = 0 }
unfolding has insert letters holds set_of firsts colour_in union_at mark_set edges_of mark_sets colour_of named policy_of
policy = refl
