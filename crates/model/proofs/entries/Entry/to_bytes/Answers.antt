use Rattle.std.proofs.Common.{◌≡◌, [], ◌∷◌, ◌++◌, take, drop, ap, ◌∙◌, w32, SFits, rules}
use Rattle.std.proofs.lemmas.Int.{to_z-of_z}
use borrow.Rule.Slice.PartMut.{put_mid}
use Rattle.model.specs.Bytes.{big, raised, written, spelled}
use Rattle.model.specs.Entries.{clean}
use Rattle.model.proofs.EntryBytes.{spelled_written}
use Rattle.model.proofs.Numbers.{high_first}
use Rattle.model.proofs.Proper.{clean_is_entry}
use Rattle.model.proofs.entries.Entry.to_bytes.Goals as goal

pub returns : goal.returns
unfolding written
returns c =
    let fits-p : SFits w32 c.clean-e.result.promise = search rules in
    let fits-v : SFits w32 c.clean-e.result.vote = search rules in
    let p : c.copy_from_slice.new.self ≡ big 3 (raised c.clean-e.result.promise) = c.copy_from_slice.ensures.after ∙ ap (λ l. take 3 (drop 1 l)) c.to_be_bytes.ensures ∙ high_first 3 c.field_of.result ∙ ap (big 3) (simp to_z-of_z at c.field_of.ensures) in
    let v : c.copy_from_slice-2.new.self ≡ big 3 (raised c.clean-e.result.vote) = c.copy_from_slice-2.ensures.after ∙ ap (λ l. take 3 (drop 1 l)) c.to_be_bytes-2.ensures ∙ high_first 3 c.field_of-2.result ∙ ap (big 3) (simp to_z-of_z at c.field_of-2.ensures) in
    let w : c.copy_from_slice-3.new.self ≡ big 6 c.clean-e.result.code = c.copy_from_slice-3.ensures.after ∙ ap (λ l. take 6 (drop 2 l)) c.to_be_bytes-3.ensures ∙ high_first 6 c.clean-e.result.code in
    let bytes : _ ≡ written (clean c.args.self.now) = (λ i. put_mid 6 6 (put_mid 3 3 (p i ++ 0 ∷ 0 ∷ 0 ∷ 0 ∷ 0 ∷ 0 ∷ 0 ∷ 0 ∷ 0 ∷ []) (v i)) (w i)) ∙ ap written c.clean-e.ensures in
    record { bytes = bytes; reads_back = ap spelled bytes ∙ spelled_written (clean c.args.self.now) (clean_is_entry c.args.self.now) }
