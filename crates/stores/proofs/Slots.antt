-- Each whole so many bytes. Assumes nothing.
use Rattle.std.proofs.Common.{◌≡◌, ℕ, zero, suc, ◌+◌, ◌*◌, ◌<◌, List, get_or, take, drop, ap, ◌∙◌, arith}
use Rattle.std.proofs.lemmas.List.{drop-drop}
use Rattle.std.specs.Simd.{first_chunks}

pub slot_at : {X : Type 0} (n m k : ℕ) (xs d : List X) → k < m → get_or (first_chunks n m xs) k d ≡ take n (drop (n * k) xs)
slot_at n zero k xs d h = absurd (omega arith)
slot_at n (suc m) zero xs d h =
    let front : 0 ≡ n * 0 = omega arith in
    ap (λ a. take n (drop a xs)) front
slot_at n (suc m) (suc k) xs d h =
    let next : n + n * k ≡ n * suc k = omega arith in
    slot_at n m k (drop n xs) d (omega arith) ∙ ap (take n) (drop-drop (n * k) n xs ∙ ap (λ a. drop a xs) next)
