use Rattle.std.proofs.Common.{◌<◌, ap, ◌∙◌, w32}
use Rattle.std.proofs.ByRecursion.{All-from_get_or}
use Rattle.std.proofs.lemmas.Int.{to_z-of_z}
use Rattle.model.specs.Bytes.{lowered, written}
use Rattle.model.proofs.EntryBytes.{spelled_by, written_spelled}
use Rattle.model.proofs.entries.Entry.spelled.Goals as goal

pub returns : goal.returns
returns c =
    let bs = c.args.bytes.now in
    let p = to_z-of_z w32 c.ballot_of.result (record { sfits = c.ballot_of.type_inv }) ∙ c.ballot_of.ensures ∙ ap lowered c.number_of.ensures.value in
    let v = to_z-of_z w32 c.ballot_of-2.result (record { sfits = c.ballot_of-2.type_inv }) ∙ c.ballot_of-2.ensures ∙ ap lowered c.number_of-2.ensures.value in
    let is = spelled_by bs (record { promise = _; vote = _; code = c.number_of-3.result }) p v c.number_of-3.ensures.value in
    let small = All-from_get_or (λ d. d < 256) bs 0 (λ i _. (c.type_inv.bytes i).fits) in
    record { value = is; only_so = ap written is ∙ written_spelled bs c.requires small }
