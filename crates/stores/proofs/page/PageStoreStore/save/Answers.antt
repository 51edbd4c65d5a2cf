use Rattle.std.proofs.Common.{rules}
use Rattle.model.specs.Entries.{clean}
use Rattle.model.proofs.Proper.{clean_is_entry}
use Rattle.stores.proofs.PageBytes.{page_written}
use Rattle.stores.proofs.page.PageStoreStore.save.Goals as goal

pub returns-then-place-places-clause-saves : goal.returns-then-place-places-clause-saves
returns-then-place-places-clause-saves c =
    page_written c.args.self.now _ c.args.place (clean c.args.e) (search rules) (clean_is_entry c.args.e) (cc)
