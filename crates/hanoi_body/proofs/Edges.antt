-- Laws of reading the marks of an edge, and an edge. Assumes nothing.
use Prim.Native.Nat.{ℕ, ◌+◌, ◌*◌, ◌%◌, ◌^◌, ◌≤◌, ◌<◌}
use native.Mathlib.Omega.{arith}
use mathlib.Core.Path.{◌≡◌, refl, sym, ap, ap₂, ◌∙◌}
use mathlib.Core.Bool.{false}
use mathlib.Core.List.{List, [], ◌∷◌, ◌++◌}
use lib.Bits.{bit_or, or_zero_l}
use lib.Dec.{eqb}
use lib.ListN.{length, get_or}
use Rattle.std.specs.Prelude.{Result, Ok, Err}
use Rattle.lists.proofs.Bools.{neqb, lt-true}
use Rattle.masks.specs.Masks.{insert, set_of}
use Rattle.masks.proofs.Bits.{shl_one}
use Rattle.masks.proofs.SetOf.{set-append}
use Rattle.hanoi.specs.Texts.{white, digit}
use Rattle.hanoi.specs.Documents.{Formula, Edge, plain, marked}
use Rattle.hanoi.specs.Meaning.{mark_set}
use Rattle.hanoi.specs.Offers.{takes_name, between, dead, word_on, begin_word, begin, byte_at, step_byte}
use Rattle.hanoi.specs.Reader.{Head, At, edges, target, braces, row_over, edge_next, row_next, offers}
use Rattle.hanoi_tokens.specs.declared.Stop.{Stop}
use Rattle.hanoi_tokens.specs.declared.Begun.{Begun}
use Rattle.hanoi_tokens.specs.declared.Number.{Number}
use Rattle.hanoi_tokens.specs.declared.Wanted.TheVariants.{Below}
use Rattle.hanoi_tokens.specs.Moves.{Moves, Stops, ReadsTo}
use Rattle.hanoi_tokens.specs.Tokens.{Begins, numbers_for, ReadsDigits}
use Rattle.hanoi_tokens.proofs.Moves.{neither, stay, moves-on, moves-stops, moves-reads, one}
use Rattle.hanoi_body.specs.declared.Marks.{Marks}
use Rattle.hanoi_body.specs.Edges.{ReadsMarks, EdgeAt, ReadsEdge}

-- ---- bytes
module _ (h : Head) (f : Formula) (rs : List (List Edge)) (es : List Edge) where
  step-closes : (t : ℕ) (ms : List ℕ) → step_byte offers (between false (braces h f rs es t ms)) 125 ≡ between false (edges h f rs (es ++ (marked t ms ∷ [])))
  unfolding step_byte byte_at begin begin_word word_on offers white
  step-closes t ms = refl

  step-opens : (t : ℕ) → step_byte offers (between false (target h f rs es t)) 123 ≡ between false (braces h f rs es t [])
  unfolding step_byte byte_at begin begin_word word_on offers white
  step-opens t = refl

  -- a byte that no mark begins with
  no-mark : (t : ℕ) (ms : List ℕ) (b : ℕ) → white b ≡ false → eqb b 125 ≡ false → digit b ≡ false → step_byte offers (between false (braces h f rs es t ms)) b ≡ dead
  unfolding step_byte byte_at begin begin_word takes_name offers
  no-mark t ms b w q d = rw (w, q, d) (neither (eqb b 34))

  -- a byte that no edge begins with
  no_edge : (b : ℕ) → row_over h es ≡ false → white b ≡ false → digit b ≡ false → step_byte offers (between false (edges h f rs es)) b ≡ dead
  unfolding step_byte byte_at begin begin_word takes_name offers row_next
  no_edge b o w d = rw (w, d, o) (neither (eqb b 34))

  -- behind a target any byte but an opening brace is as behind an edge with no marks
  no-marks : (t b : ℕ) → white b ≡ false → eqb b 123 ≡ false → digit b ≡ false
      → step_byte offers (between false (target h f rs es t)) b ≡ step_byte offers (between false (edges h f rs (es ++ (plain t ∷ [])))) b
  unfolding step_byte byte_at begin begin_word takes_name offers
  no-marks t b w q d = rw (w, q, d) refl

  target-numbers : (t : ℕ) → (offers (target h f rs es t)).numbers ≡ edge_next h f rs (es ++ (plain t ∷ []))
  unfolding offers
  target-numbers t = refl

  pub edges-numbers : (offers (edges h f rs es)).numbers ≡ edge_next h f rs es
  unfolding offers
  edges-numbers = refl

  edge-numbers : row_over h es ≡ false → edge_next h f rs es ≡ numbers_for (Below h.states) (target h f rs es)
  unfolding edge_next numbers_for
  edge-numbers o = rw o refl

  mark-numbers : (t : ℕ) (ms : List ℕ) → (offers (braces h f rs es t ms)).numbers ≡ numbers_for (Below h.sets) (λ m. braces h f rs es t (ms ++ (m ∷ [])))
  unfolding offers numbers_for
  mark-numbers t ms = refl

-- ---- marks
set-none : 0 ≡ set_of []
unfolding set_of
set-none = refl

set-one : (v : ℕ) → set_of (v ∷ []) ≡ 2 ^ v
unfolding set_of insert
set-one v = or_zero_l (2 ^ v)

set_more : (ms : List ℕ) (v : ℕ) → bit_or (set_of ms) (2 ^ v) ≡ set_of (ms ++ (v ∷ []))
set_more ms v = ap (bit_or (set_of ms)) (sym (set-one v)) ∙ sym (set-append ms (v ∷ []))

module _ (text : List ℕ) (m sets : ℕ) where
  -- the marks before byte i
  pub record Marking (i marks : ℕ) : Type 0 where
    pub within : i ≤ length text
    pub moves : (h : Head) (f : Formula) (rs : List (List Edge)) (es : List Edge) (t : ℕ) → h.sets ≡ sets
        → (ms : List ℕ) × (marks ≡ set_of ms) × Moves text m (between false (braces h f rs es t [])) i (between false (braces h f rs es t ms))

  pub marking-none : m ≤ length text → Marking m 0
  marking-none l = record { within = l; moves = λ h f rs es t e. ([], set-none, stay text m (between false (braces h f rs es t [])) l) }

  module _ (i marks : ℕ) (k : Marking i marks) where
    pub marking-breaks : (e : Stop) → Begins text i false (Err e) → ReadsMarks text m sets (Err e)
    marking-breaks e g = record { within = tt; moves = tt; stops = λ h f rs es t o. let q = k.moves h f rs es t o in moves-stops text q.2 (g.reads (braces h f rs es t q.0) (λ x. refl)) }

    module _ (b : Begun) (g : Begins text i false (Ok b)) where
      -- at the first byte of the next token
      at-token : (h : Head) (f : Formula) (rs : List (List Edge)) (es : List Edge) (t : ℕ) → h.sets ≡ sets
          → (ms : List ℕ) × (marks ≡ set_of ms) × Moves text m (between false (braces h f rs es t [])) b.at (between false (braces h f rs es t ms))
      at-token h f rs es t o = let q = k.moves h f rs es t o in (q.0, q.1, moves-on text q.2 (g.reads (braces h f rs es t q.0) (λ x. refl)))

      pub marking-closed : b.byte ≡ 125 → ReadsMarks text m sets (Ok (record { at = b.at + 1; marks = marks }))
      marking-closed c = record {
        within = let l = g.there in omega (arith, l);
        moves =
            λ h f rs es t o. let q = at-token h f rs es t o in
            (q.0, q.1, moves-on text q.2 (one text g.there (ap (step_byte offers (between false (braces h f rs es t q.0))) (sym g.byte_is ∙ c) ∙ step-closes h f rs es t q.0) refl));
        stops = tt;
      }

      module _ (other : b.byte ≡ 125 → ⊥) where
        reads : (d : Result Number Stop) → ReadsDigits text b.at (Below sets) d → (h : Head) (f : Formula) (rs : List (List Edge)) (es : List Edge) (t : ℕ) → h.sets ≡ sets → (ms : List ℕ)
            → ReadsTo text b.at (between false (braces h f rs es t ms)) d (λ x. x.at) (λ x. between false (braces h f rs es t (ms ++ (x.value ∷ []))))
        reads d r h f rs es t o ms =
            r.reads (braces h f rs es t ms) (λ m. braces h f rs es t (ms ++ (m ∷ []))) (mark-numbers h f rs es t ms ∙ ap (λ (k : ℕ). numbers_for (Below k) (λ m. braces h f rs es t (ms ++ (m ∷ [])))) o)
            (λ n. no-mark h f rs es t ms (get_or text b.at 0) (ap white (sym g.byte_is) ∙ g.other) (ap (λ (x : ℕ). eqb x 125) (sym g.byte_is) ∙ neqb b.byte 125 other) n)

        pub marking-not : (e : Stop) → ReadsDigits text b.at (Below sets) (Err e) → ReadsMarks text m sets (Err e)
        marking-not e r = record { within = tt; moves = tt; stops = λ h f rs es t o. let q = at-token h f rs es t o in moves-stops text q.2 (reads (Err e) r h f rs es t o q.0) }

        module _ (d : Number) (r : ReadsDigits text b.at (Below sets) (Ok d)) (few : sets ≤ 32) where
          pub mark-small : d.value < 32
          mark-small = let l = lt-true d.value sets r.taken in omega (arith, l, few)

          pub marking-more : Marking d.at (bit_or marks (1 * 2 ^ d.value % 4294967296))
          marking-more = record {
            within = r.within;
            moves = λ h f rs es t o. let q = at-token h f rs es t o in
                (q.0 ++ (d.value ∷ []), ap₂ bit_or q.1 (shl_one 32 d.value mark-small) ∙ set_more q.0 d.value, moves-on text q.2 (reads (Ok d) r h f rs es t o q.0));
          }

-- ---- edges
mark-none : (t : ℕ) → 0 ≡ mark_set (plain t)
unfolding mark_set
mark-none t = set-none

mark-set : (t : ℕ) (ms : List ℕ) → set_of ms ≡ mark_set (marked t ms)
unfolding mark_set
mark-set t ms = refl

module _ (text : List ℕ) (m states sets : ℕ) where
  stopped : (e : Stop) → ((w : EdgeAt text m states sets) → Stops text m (between false w.state) e.at) → ReadsEdge text m states sets (Err e)
  stopped e k = record { there = tt; below = tt; follows = tt; stops = k }

  reads-target : (t : Result Number Stop) → ReadsDigits text m (Below states) t → (w : EdgeAt text m states sets)
      → ReadsTo text m (between false w.state) t (λ x. x.at) (λ x. between false (target w.head w.formula w.rows w.row x.value))
  reads-target t k w =
      let to = target w.head w.formula w.rows w.row in
      k.reads w.state to (w.behind.numbers_are ∙ (edge-numbers w.head w.formula w.rows w.row w.more ∙ ap (λ (x : ℕ). numbers_for (Below x) to) w.states_are))
      (λ d. w.behind.others_are d ∙ no_edge w.head w.formula w.rows w.row (get_or text m 0) w.more w.behind.begins d)

  pub edge_none : (e : Stop) → ReadsDigits text m (Below states) (Err e) → ReadsEdge text m states sets (Err e)
  edge_none e k = stopped e (reads-target (Err e) k)

  module _ (t : Number) (k : ReadsDigits text m (Below states) (Ok t)) where
    small : t.value < states
    small = lt-true t.value states k.taken

    -- the state behind the target
    abbrev behind : EdgeAt text m states sets → At
    behind w = target w.head w.formula w.rows w.row t.value

    at_next : (b : Result Begun Stop) → Begins text t.at false b → (w : EdgeAt text m states sets) → ReadsTo text m (between false w.state) b (λ x. x.at) (λ x. between false (behind w))
    at_next b g w = moves-reads text b (λ (x : Begun). x.at) (λ (x : Begun). between false (behind w)) (reads-target (Ok t) k w) (g.reads (behind w) (λ x. refl))

    pub edge-breaks : (e : Stop) → Begins text t.at false (Err e) → ReadsEdge text m states sets (Err e)
    edge-breaks e g = stopped e (at_next (Err e) g)

    module _ (b : Begun) (g : Begins text t.at false (Ok b)) where
      pub edge-plain : (b.byte ≡ 123 → ⊥) → ReadsEdge text m states sets (Ok (record { at = b.at; target = t.value; marks = 0 }))
      edge-plain other = record {
        there = g.there;
        below = small;
        follows = λ w. record {
          edge = plain t.value;
          state = behind w;
          target_is = refl;
          marks_are = mark-none t.value;
          behind = record {
            begins = ap white (sym g.byte_is) ∙ g.other;
            numbers_are = target-numbers w.head w.formula w.rows w.row t.value;
            others_are = no-marks w.head w.formula w.rows w.row t.value (get_or text b.at 0) (ap white (sym g.byte_is) ∙ g.other) (ap (λ (x : ℕ). eqb x 123) (sym g.byte_is) ∙ neqb b.byte 123 other);
          };
          moves = at_next (Ok b) g w;
        };
        stops = tt;
      }

      module _ (opens : b.byte ≡ 123) where
        at-marks : (w : EdgeAt text m states sets) → Moves text m (between false w.state) (b.at + 1) (between false (braces w.head w.formula w.rows w.row t.value []))
        at-marks w = moves-on text (at_next (Ok b) g w) (one text g.there (ap (step_byte offers (between false (behind w))) (sym g.byte_is ∙ opens) ∙ step-opens w.head w.formula w.rows w.row t.value) refl)

        pub edge-unmarked : (e : Stop) → ReadsMarks text (b.at + 1) sets (Err e) → ReadsEdge text m states sets (Err e)
        edge-unmarked e q = stopped e (λ w. moves-stops text (at-marks w) (q.stops w.head w.formula w.rows w.row t.value w.sets_are))

        module _ (r : Marks) (q : ReadsMarks text (b.at + 1) sets (Ok r)) where
          pub edge-open : (e : Stop) → Begins text r.at false (Err e) → ReadsEdge text m states sets (Err e)
          edge-open e l = stopped e (λ w.
              let p = q.moves w.head w.formula w.rows w.row t.value w.sets_are in
              moves-stops text (moves-on text (at-marks w) p.2) (l.reads (edges w.head w.formula w.rows (w.row ++ (marked t.value p.0 ∷ []))) (λ x. refl)))

          pub edge-marked : (n : Begun) → Begins text r.at false (Ok n) → ReadsEdge text m states sets (Ok (record { at = n.at; target = t.value; marks = r.marks }))
          edge-marked n l = record {
            there = l.there;
            below = small;
            follows = λ w.
                let p = q.moves w.head w.formula w.rows w.row t.value w.sets_are in
                let s = edges w.head w.formula w.rows (w.row ++ (marked t.value p.0 ∷ [])) in
                record {
                  edge = marked t.value p.0;
                  state = s;
                  target_is = refl;
                  marks_are = p.1 ∙ mark-set t.value p.0;
                  behind = record {
                    begins = ap white (sym l.byte_is) ∙ l.other;
                    numbers_are = edges-numbers w.head w.formula w.rows (w.row ++ (marked t.value p.0 ∷ []));
                    others_are = λ d. refl;
                  };
                  moves = moves-on text (at-marks w) (moves-on text p.2 (l.reads s (λ x. refl)));
                };
            stops = tt;
          }
