-- A table that a loop fills from the front: a place more, and its end. Assumes nothing.
use Rattle.std.proofs.Common.{ℕ, ◌≡◌, ◌+◌, ◌≤◌, ◌<◌, List, length, replicate, sym, ap, ◌∙◌, arith, append-nil}
use Rattle.std.proofs.Math.ListN.{set, drop_of_length-le}
use Rattle.std.proofs.Math.Seq.{paste}
use Rattle.std.proofs.lemmas.List.{length-replicate}
use Rattle.std.proofs.lemmas.List.Edits.{paste_all, fill_from_more}

pub filling_more : {A : Type 0} (t₀ t : List A) (i : ℕ) (x y : A) → i < length t₀ → y ≡ x → t ≡ paste t₀ 0 (replicate i x) i → set t i y ≡ paste t₀ 0 (replicate (i + 1) x) (i + 1)
filling_more t₀ t i x y h e k =
    let z : 0 + i ≡ i = omega arith in
    let l : 0 + i < length t₀ = omega arith in
    rw (k, e) (ap (λ (j : ℕ). set (paste t₀ 0 (replicate i x) i) j x) (sym z) ∙ fill_from_more t₀ 0 i x l)

pub filled : {A : Type 0} (t₀ t : List A) (i : ℕ) (x : A) → i ≤ length t₀ → length t₀ ≤ i → t ≡ paste t₀ 0 (replicate i x) i → t ≡ replicate (length t₀) x
filled t₀ t i x m h k =
    let z : i ≡ length t₀ = omega arith in
    let l : length t₀ ≤ 0 + i = omega arith in
    k ∙ paste_all t₀ 0 (replicate i x) i (sym (length-replicate i x)) ∙ rw (drop_of_length-le t₀ l, append-nil (replicate i x)) (ap (λ (j : ℕ). replicate j x) z)
