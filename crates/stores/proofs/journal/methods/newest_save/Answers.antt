use Rattle.std.proofs.Common.{rules, ◌≡◌, ap, ◌∙◌}
use borrow.Author.Tests.{tests}
use Rattle.std.proofs.lemmas.Iterator.Search.{find_from_yields_List}
use Rattle.std.proofs.lemmas.Iterator.Adapters.{YieldsList-from_rev_slice}
use Rattle.stores.proofs.NewestSave.{of_place, entry_of, found_from_back}
use Rattle.std.specs.Option.{option_map_or, option_map}
use Rattle.model.specs.Entries.{none}
use Rattle.stores.proofs.journal.methods.newest_save.Goals as goal

pub returns : goal.returns
returns c =
    let saves = c.slots.result.now in
    let found = find_from_yields_List (of_place c.args.place) _ _ c.find.result c.find.ensures.ran (YieldsList-from_rev_slice saves cc) (λ x b q k. search (rules, tests)) in
    let entry : c.map_or.result ≡ option_map_or entry_of (option_map (λ x. x.now) c.find.result) none = search rules in
    entry ∙ ap (λ o. option_map_or entry_of o none) found ∙ found_from_back c.args.used.now saves c.slots.ensures.each c.args.place c.slots.ensures.count
