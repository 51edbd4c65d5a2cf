use Rattle.std.proofs.Common.{sym}
use Rattle.model.proofs.Masks.{member-past}
use Rattle.posts.proofs.Members.{weeding_stays, weeding_goes, weeding_all}
use Rattle.posts.proofs.quota.Quota.open_to.Goals as goal
use Rattle.posts.proofs.quota.Quota.open_to.Goals.{then-not-has_room, else-not-has_room}

pub loop-q-preserved : goal.loop-q-preserved
loop-q-preserved g c =
    elim c.if-not-has_room.branch [
      | then-not-has_room w ↦ rw w.open-is (weeding_goes _ _ _ _ c.loop-q.invariant _ (sym w.if-not-has_room.ensures) w.without-open.ensures.by_members)
      | else-not-has_room w ↦ rw w.open-is (weeding_stays _ _ _ _ c.loop-q.invariant (sym w.if-not-has_room.ensures))
    ]

pub returns : goal.returns
returns g c =
    weeding_all _ _ _ _ c.loop-q.invariant c.loop-q-test.false (λ p. member-past c.args.to p c.ranges.to.fits)
