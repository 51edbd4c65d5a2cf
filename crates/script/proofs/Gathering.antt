-- Collecting a line: where the block goes on behind its part. Assumes nothing.
use Rattle.std.proofs.Common.{◌≡◌, ℕ, ◌+◌, ◌-◌, List, ◌∷◌, ◌++◌, length, drop, Some, None, Option, sym, ap, ◌∙◌, arith, length-append, length-drop, Bor}
use Rattle.std.specs.Option.{MatchOption}
use Rattle.std.proofs.lemmas.List.{drop-drop}
use Rattle.std.proofs.Math.Seq.{drop-append-add}
use Rattle.script.specs.Pieces.{others, cut, newline, Splits}
use Rattle.script.specs.Collected.{part, GoesOn}

pub goes_on : (block : List ℕ) (from : ℕ) (left first : List ℕ) (rest : Option (Bor (List ℕ))) (next : Option ℕ) → left ≡ drop from block → Splits newline left first rest → MatchOption rest (next ≡ None) (λ x. next ≡ Some (length block - length x.now)) → GoesOn block from next
goes_on block from left first None next e s n = rw (n, ← e) (cc, cc)
goes_on block from left first (Some rest) next e s n =
    let is_part : part block from ≡ first = cc in
    let later : others newline (drop from block) ≡ cut newline rest.now = cc in
    let behind : drop from block ≡ first ++ newline ∷ rest.now = sym e ∙ s.0 in
    let long = simp (length-drop, length-append) at (ap length behind) in
    let at : length block - length rest.now ≡ from + (length first + 1) = omega arith in
    let there : drop (from + (length first + 1)) block ≡ rest.now = sym (drop-drop (length first + 1) from block) ∙ ap (drop (length first + 1)) behind ∙ drop-append-add first (newline ∷ rest.now) 1 in
    rw (n, is_part) (omega arith, omega arith, rw (at, there) later)
