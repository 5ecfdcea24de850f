-- The laws of the record of a policy: the policy of a policy's record is that policy, bytes of another length are no legal policy, the zero policy's record is all zero, and a record
-- is filled by four stores. Assumes nothing.
use Prim.Native.Nat.{ℕ, ◌+◌, ◌^◌, ◌<◌}
use native.Mathlib.Omega.{arith}
use native.Mathlib.Numerals.{add-one}
use mathlib.Core.Path.{◌≡◌, refl, sym, ap, ap₂, ◌∙◌}
use mathlib.Core.Logic.{◌≢◌}
use mathlib.Core.Bool.{Bool, true, false, ◌||◌, cond}
use mathlib.Core.List.{List, [], ◌∷◌, ◌++◌, map, append_assoc}
use lib.Dec.{lit<}
use lib.ListN.{length, get_or, take, replicate, length-append, length-map, get_or-append, get_or-map}
use lib.Seq.{sets, length-sets, take_all, ext_get_or, get_or-append-add}
use borrow.Author.Tests.{eq-eqb, ne_eqb}
use Rattle.lists.specs.Lists.{any, below}
use Rattle.lists.proofs.Lists.{length-below, get_or-map-below, none_any, none_true, mem_below}
use Rattle.lists.proofs.AnyAll.{any_snoc}
use Rattle.masks.specs.Masks.{has, insert, mask_of}
use Rattle.masks.proofs.Bits.{mask-ext-to, has-none}
use Rattle.masks.proofs.MaskOf.{mask-of-lt, has-mask-of, mask-of-in, mask-of-out}
use Rattle.tables.proofs.Stores.{front-more}
use Rattle.policy.specs.declared.Policy.{Policy}
use Rattle.policy.specs.Policies.{legal}
use Rattle.policy.specs.Making.{counted, zero_policy}
use Rattle.policy.proofs.Making.{zero-illegal}
use Rattle.records.specs.Records.{flag, is_set, record_length, bytes_at, flags_at, quiet_byte, any_quiet, quiet_at, quiet_flags, unpacked, policy_of, record_of}

-- the arrays of a policy have their lengths
pub record Sized (p : Policy) : Type 0 where
  pub targets : length p.target ≡ 64
  pub colours : length p.colour ≡ 64
  pub sets : length p.family ≡ 256
  pub quiet_lt : p.quiet < 2 ^ 64

-- ---- from a record
pub policy-of : (b : List ℕ) → length b ≡ record_length → policy_of b ≡ unpacked b
unfolding policy_of
policy-of b e = rw (eq-eqb (length b) record_length e)

pub policy-of-other : (b : List ℕ) → length b ≢ record_length → policy_of b ≡ zero_policy
unfolding policy_of
policy-of-other b n = rw (ne_eqb (length b) record_length n)

-- bytes of another length are refused with 7
pub other-illegal : (b : List ℕ) → length b ≢ record_length → legal (policy_of b) ≡ false
other-illegal b n = ap legal (policy-of-other b n) ∙ zero-illegal

module _ (front l rest : List ℕ) where
  bytes_back : (at n : ℕ) → length front ≡ at → length l ≡ n → bytes_at (front ++ l ++ rest) at n ≡ l
  unfolding bytes_at
  bytes_back at n e long =
      let b : List ℕ = front ++ l ++ rest in
      let f : ℕ → ℕ = λ (i : ℕ). get_or b (at + i) 0 in
      let sized : length (map f (below n)) ≡ n = length-map (below n) f ∙ length-below n in
      ext_get_or 0 (map f (below n)) l (sized ∙ sym long)
      (λ j h.
      let k : j < n = omega arith in
      get_or-map-below f n j 0 k
      ∙ ap₂ (λ (x : List ℕ) (i : ℕ). get_or x (i + j) 0) (append_assoc front l rest) (sym e)
      ∙ get_or-append-add front (l ++ rest) j 0
      ∙ get_or-append l rest 0 j (omega arith))

flag-back : (b : Bool) → is_set (flag b) ≡ b
flag-back true = refl
flag-back false = refl

flags-back : (front : List ℕ) (l : List Bool) (rest : List ℕ) (at n : ℕ) → length front ≡ at → length l ≡ n → flags_at (front ++ map flag l ++ rest) at n ≡ l
unfolding flags_at
flags-back front l rest at n e long =
    let b : List ℕ = front ++ map flag l ++ rest in
    let f : ℕ → Bool = λ (i : ℕ). is_set (get_or b (at + i) 0) in
    let sized : length (map f (below n)) ≡ n = length-map (below n) f ∙ length-below n in
    ext_get_or false (map f (below n)) l (sized ∙ sym long)
    (λ j h.
    let k : j < n = omega arith in
    get_or-map-below f n j false k
    ∙ ap₂ (λ (x : List ℕ) (i : ℕ). is_set (get_or x (i + j) 0)) (append_assoc front (map flag l) rest) (sym e)
    ∙ ap is_set (get_or-append-add front (map flag l ++ rest) j 0 ∙ get_or-append (map flag l) rest 0 j (omega (arith, length-map l flag)) ∙ get_or-map flag l j false)
    ∙ flag-back (get_or l j false))

-- the quiet edges
quiet-back : (front : List ℕ) (m : ℕ) → length front ≡ 388 → m < 2 ^ 64 → quiet_at (front ++ map flag (quiet_flags m)) ≡ m
unfolding quiet_at quiet_flags
quiet-back front m e h =
    let l : List Bool = map (has m) (below 64) in
    let t : ℕ → Bool = quiet_byte (front ++ map flag l) in
    mask-ext-to 64 (mask_of t 64) m (mask-of-lt t 64) h
    (λ i k.
    has-mask-of t 64 i k
    ∙ ap (λ (at : ℕ). is_set (get_or (front ++ map flag l) (at + i) 0)) (sym e)
    ∙ ap is_set (get_or-append-add front (map flag l) i 0 ∙ get_or-map flag l i false)
    ∙ flag-back (get_or l i false)
    ∙ get_or-map-below (has m) 64 i false k)

quiet-flags-long : (m : ℕ) → length (quiet_flags m) ≡ 64
unfolding quiet_flags
quiet-flags-long m = length-map (below 64) (has m) ∙ length-below 64

module _ (p : Policy) (sized : Sized p) where
  head : List ℕ
  head = p.states ∷ p.letters ∷ p.colours ∷ p.initial ∷ []

  pub record-long : length (record_of p) ≡ record_length
  unfolding record_of
  record-long = simp (length-append, length-map) (omega (arith, quiet-flags-long p.quiet))

  unpacked-record : unpacked (record_of p) ≡ p
  unfolding unpacked record_of head
  unpacked-record =
      let flags : List ℕ = map flag p.family in
      let last : List ℕ = map flag (quiet_flags p.quiet) in
      let front : List ℕ = head ++ p.target ++ p.colour in
      let b : List ℕ = front ++ flags ++ last in
      let long : length front ≡ 132 = length-append (head ++ p.target) p.colour ∙ omega (arith, length-append head p.target, sized.targets, sized.colours) in
      let target : bytes_at b 4 64 ≡ p.target =
      ap (λ (x : List ℕ). bytes_at x 4 64) (append_assoc front flags last ∙ append_assoc (head ++ p.target) p.colour (flags ++ last)) ∙ bytes_back head p.target (p.colour ++ (flags ++ last)) 4 64 refl sized.targets in
      let colour : bytes_at b 68 64 ≡ p.colour =
      ap (λ (x : List ℕ). bytes_at x 68 64) (append_assoc front flags last) ∙ bytes_back (head ++ p.target) p.colour (flags ++ last) 68 64 (length-append head p.target ∙ omega (arith, sized.targets)) sized.colours in
      let family : flags_at b 132 256 ≡ p.family = flags-back front p.family last 132 256 long sized.sets in
      let quiet : quiet_at b ≡ p.quiet = quiet-back (front ++ flags) p.quiet (length-append front flags ∙ omega (arith, length-map p.family flag, sized.sets)) sized.quiet_lt in
      rw (target, colour, family, quiet)

  -- the policy of a policy's record is that policy
  pub policy-record : policy_of (record_of p) ≡ p
  policy-record = policy-of (record_of p) record-long ∙ unpacked-record

-- a refusal's record
pub zero-record : record_of zero_policy ≡ replicate 452 0
unfolding record_of zero_policy counted quiet_flags has
zero-record = refl

-- ---- to a record
-- the counts stand in the first four places of t, and four stores do the rest
pub stores : (p : Policy) → Sized p → (t u v w x : List ℕ) {q : List Bool} → length t ≡ record_length → take 4 t ≡ p.states ∷ p.letters ∷ p.colours ∷ p.initial ∷ []
    → u ≡ sets t 4 p.target → v ≡ sets u 68 p.colour → w ≡ sets v 132 (map flag p.family) → q ≡ quiet_flags p.quiet → x ≡ sets w 388 (map flag q) → x ≡ record_of p
unfolding record_of
stores p sized t u v w x {q} long counts first second third e fourth =
    let flags : List ℕ = map flag p.family in
    let last : List ℕ = map flag q in
    let last-long : length last ≡ 64 = length-map q flag ∙ ap length e ∙ quiet-flags-long p.quiet in
    let lu : length u ≡ 452 = ap length first ∙ length-sets t 4 p.target ∙ long in
    let lv : length v ≡ 452 = ap length second ∙ length-sets u 68 p.colour ∙ lu in
    let lw : length w ≡ 452 = ap length third ∙ length-sets v 132 flags ∙ lv in
    let lx : length x ≡ 452 = ap length fourth ∙ length-sets w 388 last ∙ lw in
    let target : take 68 u ≡ take 4 t ++ p.target = ap (take 68) first ∙ front-more t p.target 4 64 sized.targets (omega arith) in
    let colour : take 132 v ≡ take 68 u ++ p.colour = ap (take 132) second ∙ front-more u p.colour 68 64 sized.colours (omega arith) in
    let family : take 388 w ≡ take 132 v ++ flags = ap (take 388) third ∙ front-more v flags 132 256 (length-map p.family flag ∙ sized.sets) (omega arith) in
    let quiet : take 452 x ≡ take 388 w ++ last = ap (take 452) fourth ∙ front-more w last 388 64 last-long (omega arith) in
    sym (take_all 452 x (omega arith)) ∙ quiet
    ∙ ap₂ (λ (y z : List ℕ). y ++ z) (family ∙ ap (λ (y : List ℕ). y ++ flags) (colour ∙ ap (λ (y : List ℕ). y ++ p.colour) (target ∙ ap (λ (y : List ℕ). y ++ p.target) counts))) (ap (map flag) e)

-- a record fills what is as long
pub whole : (t vs : List ℕ) → length vs ≡ length t → sets t 0 vs ≡ vs
whole t vs e =
    let n : ℕ = 0 + length vs in
    sym (take_all n (sets t 0 vs) (omega (arith, length-sets t 0 vs))) ∙ front-more t vs 0 (length vs) refl (omega arith)

-- ---- the quiet edges: one turn of the loops, and where there is none
pub any-quiet-turn : (b : List ℕ) (i : ℕ) (a x : Bool) → a ≡ any (quiet_byte b) (below i) → x ≡ quiet_byte b i → a || x ≡ any (quiet_byte b) (below (i + 1))
any-quiet-turn b i a x e q = ap₂ ◌||◌ e q ∙ sym (any_snoc (quiet_byte b) (below i) i) ∙ ap (λ (k : ℕ). any (quiet_byte b) (below k)) (sym (add-one i))

pub quiet-turn : (b : List ℕ) (i a r : ℕ) (x : Bool) → a ≡ mask_of (quiet_byte b) i → x ≡ quiet_byte b i → r ≡ cond x (insert a i) a → r ≡ mask_of (quiet_byte b) (i + 1)
quiet-turn b i a r x e q k = k ∙ ap (λ (m : ℕ). cond x (insert m i) m) e ∙ go x (sym q)
  where
    go : (x : Bool) → quiet_byte b i ≡ x → cond x (insert (mask_of (quiet_byte b) i) i) (mask_of (quiet_byte b) i) ≡ mask_of (quiet_byte b) (i + 1)
    go true t = sym (mask-of-in (quiet_byte b) i t)
    go false t = sym (mask-of-out (quiet_byte b) i t)

pub quiet_none : (b : List ℕ) → any_quiet b ≡ false → 0 ≡ quiet_at b
unfolding any_quiet quiet_at
quiet_none b f =
    let t : ℕ → Bool = quiet_byte b in
    sym (mask-ext-to 64 (mask_of t 64) 0 (mask-of-lt t 64) (lit< tt) (λ i l. has-mask-of t 64 i l ∙ none_any t (below 64) f i (mem_below 64 i l) ∙ sym (has-none i)))

-- ---- without quiet edges: a record ends in 64 zeros; and such zeros give no quiet edge
pub plain-record : (p : Policy) → p.quiet ≡ 0 → record_of p ≡ p.states ∷ p.letters ∷ p.colours ∷ p.initial ∷ (p.target ++ p.colour ++ map flag p.family ++ replicate 64 0)
unfolding record_of quiet_flags has
plain-record p plain = ap (λ (m : ℕ). p.states ∷ p.letters ∷ p.colours ∷ p.initial ∷ (p.target ++ p.colour ++ map flag p.family ++ map flag (quiet_flags m))) plain

pub plain-unpacked : (b : List ℕ) → ((i : ℕ) → get_or b (388 + i) 0 ≡ 0) → (unpacked b).quiet ≡ 0
unfolding unpacked any_quiet
plain-unpacked b zeros = sym (quiet_none b (none_true (quiet_byte b) (below 64) (λ i m. ap is_set (zeros i))))
