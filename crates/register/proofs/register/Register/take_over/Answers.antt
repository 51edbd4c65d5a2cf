use Rattle.std.proofs.Common.{◌≡◌, true, [], get_or, set, pos, sym, ap, ◌∙◌, subst, arith}
use Rattle.model.specs.Entries.{is_entry}
use Rattle.model.proofs.Proper.{clean_is_entry}
use Rattle.steps.proofs.Growth.{adopted_entry}
use Rattle.frames.proofs.Addresses.{not_to_sender}
use Rattle.steps.specs.Entries.{seen}
use Rattle.machine.specs.Board.{makes, renewed}
use Rattle.machine.specs.Calls.{entry_of}
use Rattle.machine.proofs.Steps.{took_over}
use Rattle.register.specs.State.{board}
use Rattle.machine.proofs.Ballots.{all_entries}
use Rattle.register.proofs.register.Register.take_over.Goals as goal

pub keep_change-requires : goal.keep_change-requires
keep_change-requires g c =
    let frame = c.args.frame.now in
    let own = c.clean-own.result in
    let row = (get_or c.args.rows.now c.place-place.result (record { entries = [] })).entries in
    let ok : is_entry own ≡ true = subst (λ e. is_entry e ≡ true) (sym c.clean-own.ensures) (clean_is_entry (get_or row c.args.q (record { promise = pos 0; vote = pos 0; code = 0 }))) in
    let s = all_entries frame.row.entries c.requires.1.1.1.proper frame.header.sender in
    subst (λ e. is_entry e ≡ true) (sym c.adopted-next.ensures) (adopted_entry own (entry_of frame frame.header.sender) ok s)

pub acknowledge-requires : goal.acknowledge-requires
acknowledge-requires g c =
    let h = c.args.frame.now.header in
    let us = c.requires.1.1.1.for_us in
    let same = us.same_n in
    let from = h.sent in
    (c.requires.0, (us.within, (omega arith, λ e. not_to_sender h.sort h.n h.sender h.to c.args.q h.addressed us.addressed (sym e))))

pub returns : goal.returns
returns g c =
    let frame = c.args.frame.now in
    let self = c.args.self.now in
    let rows = c.args.rows.now in
    let place = c.place-place.result in
    let next = c.adopted-next.result in
    let kept = c.in_ok-keep_change.ensures in
    let twice : set (set rows place c.renew.new.row) place c.renew-2.new.row ≡ renewed (renewed rows place frame.header.sender c.seen-view.result) place c.args.q next
    = (λ i. set (set rows place c.renew.new.row) place (c.renew-2.ensures i)) ∙ ap (λ r. renewed (set rows place r) place c.args.q next) c.renew.ensures in
    took_over (makes g.K.Kind.means g.Q.QuorumRule.means g.P.Post.means g.S.Store.means) (board self rows c.args.store.now c.args.post.now)
    (record {
      table = record { n = self.size.n; cells = self.size.cells; rule = self.rule; down = c.keep_change.new.down; rows = set (set rows place c.renew.new.row) place c.renew-2.new.row };
      store = c.keep_change.new.store;
      post = c.acknowledge.new.post;
    })
    c.args.q frame c.acknowledge.result place c.clean-own.result next c.seen-view.result c.behind-owed.result
    c.place-place.ensures.row c.clean-own.ensures c.adopted-next.ensures (c.seen-view.ensures ∙ ap (λ e. seen e (entry_of frame frame.header.sender)) c.clean.ensures)
    (λ i. record { n = self.size.n; cells = self.size.cells; rule = self.rule; down = kept.1 i; rows = twice i })
    kept.0 c.behind-owed.ensures c.acknowledge.ensures
