use Rattle.std.proofs.Common.{◌≡◌, ◌*◌, length, vec_items, sym, ◌∙◌, arith}
use Rattle.std.specs.Vec.{with_items}
use Rattle.std.proofs.lemmas.List.{with_items_is}
use Rattle.stores.specs.Page.{page_means}
use Rattle.register.specs.State.{board}
use Rattle.register.proofs.Benches.{Place}
use Rattle.register.proofs.Openings.{rule_for, fits_in_range, laid}
use Rattle.register.proofs.bench.Bench.new.Goals as goal

pub returns : goal.returns
returns c =
    let n = c.args.n in
    let cells = c.args.cells in
    let rule = c.in-Ok.rule in
    let made = sym c.in-Ok.ensures in
    let same : c.in-Some.size.n * c.in-Some.size.cells ≡ n * cells = λ i. c.in-Some.ensures.is.0 i * c.in-Some.ensures.is.1 i in
    let page = c.in_ok-page.ensures in
    let places : page_means.places c.in_ok-page.page ≡ n * cells = page.0 ∙ c.places.ensures.all ∙ same in
    let rows = c.in_ok-rows.rows in
    let after = c.set_up.new.rows in
    let y : Place = board c.in-Ok-set_up.register (vec_items (with_items rows after)) c.in_ok-page.page c.in_ok-line.line in
    (sym c.in-Some.ensures.ranges, laid n cells rule after y made (with_items_is rows after (omega arith)) c.in-Ok-set_up.ensures.made.1 places page.1 c.in_ok-line.ensures)

pub returns-in_default-set_up : goal.returns-in_default-set_up
returns-in_default-set_up c =
    let n = c.args.n in
    let cells = c.args.cells in
    let rule = c.in-Ok.rule in
    let before = c.as_mut_slice.result.now in
    let same : c.in-Some.size.n * c.in-Some.size.cells ≡ n * cells = λ i. c.in-Some.ensures.is.0 i * c.in-Some.ensures.is.1 i in
    let places : page_means.places c.in_ok-page.page ≡ n * cells = c.in_ok-page.ensures.0 ∙ c.places.ensures.all ∙ same in
    let long : length before ≡ n * cells = c.as_mut_slice.ensures.len ∙ c.in_ok-rows.ensures ∙ c.places-2.ensures.all ∙ same in
    sym (fits_in_range n cells rule (length before) c.in_ok-page.page (rule_for n rule (sym c.in-Ok.ensures)) long places) ∙ c.in_default-set_up.ensures.made.0
