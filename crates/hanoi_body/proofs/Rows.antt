-- Laws of reading the states with their edges, and the end. Assumes nothing.
use Prim.Native.Nat.{ℕ, suc, ◌+◌, ◌-◌, ◌*◌, ◌^◌, ◌≤◌, ◌<◌}
use native.Mathlib.Omega.{arith}
use native.Mathlib.Nat.{mul-le-mul_right, suc-mul}
use mathlib.Core.Path.{◌≡◌, refl, sym, ap, ap₂, ◌∙◌, subst}
use mathlib.Core.Logic.{◌⊎◌, inl, inr}
use mathlib.Core.Bool.{Bool, true, false, cond}
use mathlib.Core.List.{List, [], ◌∷◌, ◌++◌, map, map-append, append_assoc, append-nil}
use lib.Dec.{eqb, ltb}
use lib.ListN.{length, get_or, set, replicate, drop_of_length-le, length-append, length-map}
use lib.Seq.{set_at}
use Rattle.std.specs.Prelude.{Result, Ok, Err}
use Rattle.lists.specs.Lists.{flat}
use Rattle.lists.proofs.Bools.{test, ≡eqb, neqb}
use Rattle.hanoi.specs.Words as w
use Rattle.hanoi.specs.Texts.{white, digit, spelling}
use Rattle.hanoi.specs.Documents.{Formula, truth, Edge, plain, Document, target_of}
use Rattle.hanoi.specs.Meaning.{filled, mark_set}
use Rattle.hanoi.specs.Offers.{no_number, exactly, no_name, takes, takes_name, Spot, between, dead, begin_word, begin, byte_at, step_byte, run}
use Rattle.hanoi.specs.Reader.{Head, At, body, state_number, edges, finished, document_of, on, offer, only, row_over, edge_next, row_next, offers}
use Rattle.hanoi.proofs.Digits.{lt_yes}
use Rattle.hanoi_tokens.specs.declared.Begun.{Begun}
use Rattle.hanoi_tokens.specs.declared.Stop.{Stop}
use Rattle.hanoi_tokens.specs.declared.Number.{Number}
use Rattle.hanoi_tokens.specs.declared.Wanted.TheVariants.{Exactly}
use Rattle.hanoi_tokens.specs.Moves.{Moves, Stops, ReadsTo, Reads, Unfinished}
use Rattle.hanoi_tokens.specs.Tokens.{Skips, Begins, ReadsWord, numbers_for, ReadsNumber}
use Rattle.hanoi_tokens.proofs.Moves.{moves-on, moves-stops, moves-reads, none, alike}
use Rattle.hanoi_body.specs.declared.Step.{Step}
use Rattle.hanoi_body.specs.declared.Body.{Body}
use Rattle.hanoi_body.specs.Edges.{Behind, EdgeAt, ReadsEdge}
use Rattle.hanoi_body.specs.Body.{Stored}
use Rattle.hanoi_body.specs.Rows.{WithEdge, RowsAt, ReadsState, ReadsRow, ReadsEnd}
use Rattle.hanoi_body.proofs.Edges.{edges-numbers}

-- ---- a word that was read
abbrev somewhere : Head
somewhere = record { states = 0; start = 0; names = []; sets = 0 }

pub state-within : (text bytes : List ℕ) (m n : ℕ) → bytes ≡ spelling w.State → ReadsWord text m false bytes (Ok n) → n ≤ length text
unfolding offers
state-within text bytes m n is k = (k (body somewhere (truth true)) (state_number somewhere (truth true) []) w.State is refl (λ x. refl)).within

pub end-within : (text bytes : List ℕ) (m n : ℕ) → bytes ≡ spelling w.End → ReadsWord text m false bytes (Ok n) → n ≤ length text
unfolding offers row_next edge_next row_over
end-within text bytes m n is k =
    let es = plain 0 ∷ [] in
    (k (edges somewhere (truth true) [] es) (finished (document_of somewhere (truth true) (es ∷ []))) w.End is refl (λ x. refl)).within

-- ---- the number of a state
number-alone : (h : Head) (f : Formula) (rs : List (List Edge)) (row : ℕ) → length rs ≡ row → offers (state_number h f rs) ≡ offer [] (numbers_for (Exactly row) (λ v. edges h f rs [])) no_name
unfolding offers numbers_for
number-alone h f rs row e = ap (λ (k : ℕ). offer [] (exactly k (edges h f rs [])) no_name) e

module _ (text : List ℕ) (m row : ℕ) (bytes : List ℕ) (is : bytes ≡ spelling w.State) where
  pub state-no-word : (e : Stop) → ReadsWord text m false bytes (Err e) → ReadsState text m row (Err e)
  state-no-word e k = record { there = tt; begins = tt; reads = λ h f rs s l o u. k s (state_number h f rs) w.State is o u }

  module _ (t : ℕ) (k : ReadsWord text m false bytes (Ok t)) where
    at_edges : (n : Result Number Stop) → ReadsNumber text t (Exactly row) n → (h : Head) (f : Formula) (rs : List (List Edge)) (s : At) → length rs ≡ row → offers s ≡ only w.State (state_number h f rs) → Unfinished s
        → ReadsTo text m (between false s) n (λ x. x.at) (λ x. between false (edges h f rs []))
    at_edges n q h f rs s l o u =
        moves-reads text n (λ (x : Number). x.at) (λ (x : Number). between false (edges h f rs [])) (k s (state_number h f rs) w.State is o u)
        (q.reads (state_number h f rs) (λ v. edges h f rs []) (number-alone h f rs row l) (λ x. refl))

    pub state-no-number : (e : Stop) → ReadsNumber text t (Exactly row) (Err e) → ReadsState text m row (Err e)
    state-no-number e q = record { there = tt; begins = tt; reads = at_edges (Err e) q }

    module _ (n : Number) (q : ReadsNumber text t (Exactly row) (Ok n)) where
      pub state-no-edge : (e : Stop) → Begins text n.at false (Err e) → ReadsState text m row (Err e)
      state-no-edge e g = record { there = tt; begins = tt; reads = λ h f rs s l o u. moves-stops text (at_edges (Ok n) q h f rs s l o u) (g.reads (edges h f rs []) (λ x. refl)) }

      pub state-read : (b : Begun) → Begins text n.at false (Ok b) → ReadsState text m row (Ok b.at)
      state-read b g = record {
        there = g.there;
        begins = ap white (sym g.byte_is) ∙ g.other;
        reads = λ h f rs s l o u. moves-on text (at_edges (Ok n) q h f rs s l o u) (g.reads (edges h f rs []) (λ x. refl));
      }

-- ---- the end
nothing-more : (d : Document) (b : ℕ) → white b ≡ false → step_byte offers (between false (finished d)) b ≡ dead
unfolding step_byte byte_at begin begin_word takes takes_name offers
nothing-more d b h = rw h (go (digit b) (eqb b 34))
  where
    go : (x y : Bool) → cond {A = Spot At} x dead (cond y dead dead) ≡ dead
    go true y = refl
    go false true = refl
    go false false = refl

module _ (text : List ℕ) (m : ℕ) (bytes : List ℕ) (is : bytes ≡ spelling w.End) where
  pub end-no-word : (e : Stop) → ReadsWord text m false bytes (Err e) → ReadsEnd text m (Err e)
  end-no-word e k = record { finishes = tt; stops = λ s d o u. k s (finished d) w.End is o u }

  module _ (t : ℕ) (k : ReadsWord text m false bytes (Ok t)) (i : ℕ) (g : Skips text t i) where
    at_end : (s : At) (d : Document) → offers s ≡ only w.End (finished d) → Unfinished s → Moves text m (between false s) i (between false (finished d))
    at_end s d o u = moves-on text (k s (finished d) w.End is o u) (g.moves false (finished d))

    pub end-other : i < length text → ReadsEnd text m (Err (record { at = i }))
    end-other h = record { finishes = tt; stops = λ s d o u. moves-stops text (at_end s d o u) (none text h (nothing-more d (get_or text i 0) (g.other h))) }

    pub end_read : length text ≤ i → ReadsEnd text m (Ok i)
    end_read h = record {
      finishes = λ s d o u. (at_end s d o u).runs ∙ ap (run offers (between false (finished d))) (drop_of_length-le text h);
      stops = tt;
    }

-- ---- tables
filled_more : (l : List ℕ) (x k : ℕ) → length l ≡ k → k < 64 → set (filled 64 l) k x ≡ filled 64 (l ++ (x ∷ []))
filled_more l x k long h =
    let e : 64 - length l ≡ suc (64 - (k + 1)) = omega arith in
    let g : 64 - (k + 1) ≡ 64 - length (l ++ (x ∷ [])) = omega (arith, length-append l (x ∷ [])) in
    ap (λ (j : ℕ). set (l ++ replicate j 0) k x) e ∙ (set_at l 0 (replicate (64 - (k + 1)) 0) x k long ∙ (sym (append_assoc l (x ∷ []) (replicate (64 - (k + 1)) 0)) ∙ ap (λ (j : ℕ). (l ++ (x ∷ [])) ++ replicate j 0) g))

column : (g : Edge → ℕ) (es : List Edge) (e : Edge) (t r : List ℕ) (k x : ℕ) → length es ≡ k → k < 64 → x ≡ g e → t ≡ filled 64 (map g es) → r ≡ set t k x → r ≡ filled 64 (map g (es ++ (e ∷ [])))
column g es e t r k x long h is before now =
    now ∙ (ap₂ (λ (l : List ℕ) (y : ℕ). set l k y) before is ∙ (filled_more (map g es) (g e) k (length-map es g ∙ long) h ∙ ap (filled 64) (sym (map-append g es (e ∷ [])))))

stored_more : (es : List Edge) (e : Edge) (b r : Body) (k : ℕ) (t : Step) (fits : Bool) → length es ≡ k → k < 64 → t.target ≡ target_of e → t.marks ≡ mark_set e → WithEdge b t k fits r → fits ≡ true → Stored es b
    → Stored (es ++ (e ∷ [])) r
stored_more es e b r k t fits long h target_is marks_are with fit (ts, ms) = (
  column target_of es e b.target r.target k t.target long h target_is ts (with fit).0,
  column mark_set es e b.marks r.marks k t.marks long h marks_are ms (with fit).1,
)

pub place-lt : (row states letters a : ℕ) → row < states → a < letters → states * letters ≤ 64 → row * letters + a < 64
place-lt row states letters a h g few = omega (arith, mul-le-mul_right letters h, suc-mul row letters)

-- ---- a state's edges
flat-last : (rows : List (List Edge)) (es : List Edge) → flat (rows ++ (es ∷ [])) ≡ flat rows ++ es
flat-last [] es = append-nil es
flat-last (r ∷ rows) es = ap (λ (l : List Edge). r ++ l) (flat-last rows es) ∙ sym (append_assoc r (flat rows) es)

not-over : (h : Head) (es : List Edge) (letters a : ℕ) → 2 ^ length h.names ≡ letters → length es ≡ a → a < letters → row_over h es ≡ false
unfolding row_over
not-over h es letters a l e g = neqb (length es) (2 ^ length h.names) (λ q. omega (arith, q, l, e))

over : (h : Head) (es : List Edge) (letters : ℕ) → 2 ^ length h.names ≡ letters → length es ≡ letters → row_over h es ≡ true
unfolding row_over
over h es letters l e = ≡eqb (length es) (2 ^ length h.names) (e ∙ sym l)

over-numbers : (h : Head) (f : Formula) (rs : List (List Edge)) (es : List Edge) → row_over h es ≡ true → edge_next h f rs es ≡ no_number
unfolding edge_next
over-numbers h f rs es o = rw o refl

no_digit : (s : At) (b : ℕ) → (offers s).numbers ≡ no_number → white b ≡ false → digit b ≡ true → step_byte offers (between false s) b ≡ dead
unfolding step_byte byte_at begin takes
no_digit s b e h d = rw (h, d, e) refl

-- behind the last edge
over-offers : (h : Head) (f : Formula) (rs : List (List Edge)) (es : List Edge) (i states : ℕ) → row_over h es ≡ true → length rs ≡ i → h.states ≡ states
    → offers (edges h f rs es) ≡ cond (ltb (i + 1) states) (only w.State (state_number h f (rs ++ (es ∷ [])))) (only w.End (finished (document_of h f (rs ++ (es ∷ [])))))
unfolding offers row_next edge_next
over-offers h f rs es i states o l e =
    rw o (go (ltb (length rs + 1) h.states))
    ∙ ap (λ (b : Bool). cond b (only w.State (state_number h f (rs ++ (es ∷ [])))) (only w.End (finished (document_of h f (rs ++ (es ∷ [])))))) (ap₂ (λ (x y : ℕ). ltb (x + 1) y) l e)
  where
    go : (b : Bool) → offer (cond b (on w.State (state_number h f (rs ++ (es ∷ []))) ∷ []) (on w.End (finished (document_of h f (rs ++ (es ∷ [])))) ∷ [])) no_number no_name
        ≡ cond b (only w.State (state_number h f (rs ++ (es ∷ [])))) (only w.End (finished (document_of h f (rs ++ (es ∷ [])))))
    go true = refl
    go false = refl

-- no digit leads on there, and any other byte does as behind an edge
last-same : (text : List ℕ) (h : Head) (f : Formula) (rs : List (List Edge)) (es : List Edge) (n : ℕ) (s : At) → Behind text h f rs es n s → row_over h es ≡ true
    → step_byte offers (between false s) (get_or text n 0) ≡ step_byte offers (between false (edges h f rs es)) (get_or text n 0)
last-same text h f rs es n s k o = go (test (digit (get_or text n 0)))
  where
    go : (digit (get_or text n 0) ≡ true) ⊎ (digit (get_or text n 0) ≡ false) → step_byte offers (between false s) (get_or text n 0) ≡ step_byte offers (between false (edges h f rs es)) (get_or text n 0)
    go (inl d) =
        no_digit s (get_or text n 0) (k.numbers_are ∙ over-numbers h f rs es o) k.begins d
        ∙ sym (no_digit (edges h f rs es) (get_or text n 0) (edges-numbers h f rs es ∙ over-numbers h f rs es o) k.begins d)
    go (inr d) = k.others_are d

module _ (text : List ℕ) (states letters sets : ℕ) (fits : Bool) (i : ℕ) (before : Body) where
  -- the first a edges of state i
  pub record Row (h : Head) (f : Formula) (p : RowsAt h f states letters sets i) (a at : ℕ) (b : Body) : Type 0 where
    pub row : List Edge
    pub state : At
    pub long : length row ≡ a
    pub behind : Behind text h f p.rows row at state
    pub moves : Moves text before.at (between false p.state) at (between false state)
    pub stored : fits ≡ true → Stored (flat p.rows) before → Stored (flat p.rows ++ row) b

  pub record Rowing (a at : ℕ) (b : Body) : Type 0 where
    pub few : a ≤ letters
    pub there : at < length text
    pub rows : (h : Head) (f : Formula) (p : RowsAt h f states letters sets i) → Row h f p a at b

  row-stopped : (e : Stop) → ((h : Head) (f : Formula) (p : RowsAt h f states letters sets i) → Stops text before.at (between false p.state) e.at) → ReadsRow text states letters sets fits i before (Err e)
  row-stopped e k = record { within = tt; follows = tt; stops = k }

  module _ (less : i < states) where
    reads-state : (t : Result ℕ Stop) → ReadsState text before.at i t → (h : Head) (f : Formula) (p : RowsAt h f states letters sets i) → Reads text before.at (between false p.state) t (between false (edges h f p.rows []))
    reads-state t k h f p = k.reads h f p.rows p.state p.rows_are (p.offers_are ∙ rw (lt_yes i states less) refl) p.unfinished

    pub row-no-state : (e : Stop) → ReadsState text before.at i (Err e) → ReadsRow text states letters sets fits i before (Err e)
    row-no-state e k = row-stopped e (reads-state (Err e) k)

    pub rowing-none : (t : ℕ) → ReadsState text before.at i (Ok t) → Rowing 0 t before
    rowing-none t k = record {
      few = omega arith;
      there = k.there;
      rows = λ h f p. record {
        row = [];
        state = edges h f p.rows [];
        long = refl;
        behind = record { begins = k.begins; numbers_are = edges-numbers h f p.rows []; others_are = λ d. refl };
        moves = reads-state (Ok t) k h f p;
        stored = λ e q. subst (λ (l : List Edge). Stored l before) (sym (append-nil (flat p.rows))) q;
      };
    }

  module _ (a at : ℕ) (b : Body) (k : Rowing a at b) where
    module _ (less : a < letters) where
      edge_at : (h : Head) (f : Formula) (p : RowsAt h f states letters sets i) → EdgeAt text at states sets
      edge_at h f p =
          let v = k.rows h f p in
          record {
            head = h;
            formula = f;
            rows = p.rows;
            row = v.row;
            state = v.state;
            states_are = p.counts.states_are;
            sets_are = p.counts.sets_are;
            more = not-over h v.row letters a p.counts.letters_are v.long less;
            behind = v.behind;
          }

      pub row-no-edge : (e : Stop) → ReadsEdge text at states sets (Err e) → ReadsRow text states letters sets fits i before (Err e)
      unfolding edge_at
      row-no-edge e q = row-stopped e (λ h f p. moves-stops text (k.rows h f p).moves (q.stops (edge_at h f p)))

      pub rowing_more : (e : Step) → ReadsEdge text at states sets (Ok e) → (fits ≡ true → i * letters + a < 64) → (r : Body) → WithEdge b e (i * letters + a) fits r → Rowing (a + 1) e.at r
      unfolding edge_at
      rowing_more e q room r with = record {
        few = omega arith;
        there = q.there;
        rows = λ h f p.
            let v = k.rows h f p in
            let n = q.follows (edge_at h f p) in
            record {
              row = v.row ++ (n.edge ∷ []);
              state = n.state;
              long = length-append v.row (n.edge ∷ []) ∙ ap (λ (j : ℕ). j + 1) v.long;
              behind = n.behind;
              moves = moves-on text v.moves n.moves;
              stored = λ fit first.
                  subst (λ (l : List Edge). Stored l r) (append_assoc (flat p.rows) v.row (n.edge ∷ []))
                  (stored_more (flat p.rows ++ v.row) n.edge b r (i * letters + a) e fits (length-append (flat p.rows) v.row ∙ ap₂ ◌+◌ p.edges_are v.long) (room fit) n.target_is n.marks_are with fit (v.stored fit first));
            };
      }

    pub row_read : letters ≤ a → ReadsRow text states letters sets fits i before (Ok (record { at = at; target = b.target; marks = b.marks }))
    row_read all = record {
      within = let l = k.there in omega (arith, l);
      follows = λ h f p.
          let v = k.rows h f p in
          let u : length v.row ≡ letters = omega (arith, v.long, k.few) in
          let o = over h v.row letters p.counts.letters_are u in
          record {
            next = record {
              counts = p.counts;
              rows = p.rows ++ (v.row ∷ []);
              state = edges h f p.rows v.row;
              rows_are = length-append p.rows (v.row ∷ []) ∙ ap (λ (j : ℕ). j + 1) p.rows_are;
              edges_are = ap length (flat-last p.rows v.row) ∙ (length-append (flat p.rows) v.row ∙ (ap₂ ◌+◌ p.edges_are u ∙ omega (arith, suc-mul i letters)));
              offers_are = over-offers h f p.rows v.row i states o p.rows_are p.counts.states_are;
              unfinished = λ x. refl;
            };
            moves = moves-on text v.moves (alike text k.there (last-same text h f p.rows v.row at v.state v.behind o));
            stored = λ fit first. let q = v.stored fit first in subst (λ (l : List Edge). Stored l (record { at = at; target = b.target; marks = b.marks })) (sym (flat-last p.rows v.row)) (q.0, q.1);
          };
      stops = tt;
    }
