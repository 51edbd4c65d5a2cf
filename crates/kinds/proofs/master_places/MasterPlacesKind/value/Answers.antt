use Rattle.std.proofs.Common.{◌≡◌, ◌/◌, ◌%◌, ◌^◌, ap, sym, ◌∙◌, rules, arith, w32, of_z, to_z, lt-ltb}
use Rattle.std.specs.Int.{w16}
use Rattle.std.proofs.lemmas.Bool.{cond-true}
use Rattle.std.proofs.lemmas.Int.{to_z-of_z}
use Rattle.kinds.specs.Places.{place_at}
use Rattle.kinds.proofs.master_places.MasterPlacesKind.value.Goals as goal

pub returns : goal.returns
returns c =
    let n = c.args.code in
    let x : to_z w32 (of_z w32 c.piece.result) ≡ to_z w16 (n / 2 ^ 32)
    = to_z-of_z w32 c.piece.result (search rules) ∙ c.piece.ensures ∙ ap (to_z w16) (omega arith) in
    let y : to_z w32 (of_z w32 c.piece-2.result) ≡ to_z w16 (n / 2 ^ 16 % 2 ^ 16)
    = to_z-of_z w32 c.piece-2.result (search rules) ∙ c.piece-2.ensures in
    let z : to_z w32 (of_z w32 c.piece-3.result) ≡ to_z w16 (n % 2 ^ 16)
    = to_z-of_z w32 c.piece-3.result (search rules) ∙ c.piece-3.ensures ∙ ap (to_z w16) (omega arith) in
    c.at.ensures ∙ (λ i. place_at (x i) (y i) (z i)) ∙ sym (cond-true _ _ _ (lt-ltb n (2 ^ 48) c.if-code.false))
