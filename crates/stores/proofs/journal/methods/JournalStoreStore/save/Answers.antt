use Rattle.std.proofs.Common.{refl, arith}
use Rattle.std.proofs.lemmas.Bool.Decides.{nat_tests}
use Rattle.model.specs.Entries.{clean}
use Rattle.model.proofs.Proper.{clean_is_entry}
use Rattle.stores.proofs.JournalBytes.{save_written}
use Rattle.stores.proofs.journal.methods.JournalStoreStore.save.Goals as goal

pub returns-then-self-len-clause-saves : goal.returns-then-self-len-clause-saves
returns-then-self-len-clause-saves c =
    save_written c.args.self.now _ c.args.place (clean c.args.e) (grind (arith, nat_tests)) (clean_is_entry c.args.e) refl refl cc
