use mir.Facts.{yes_and}
use Rattle.kinds.specs.Packing.{place_made}
use Rattle.kinds.proofs.Narrowing.{taken}
use Rattle.kinds.proofs.place.Place.at.Goals as goal

pub invariant_of-result : goal.invariant_of-result
invariant_of-result c =
    let x = taken _ _ c.ranges.first c.in_ok-on_axis.ensures in
    let y = taken _ _ c.ranges.second c.in_ok-on_axis-2.ensures in
    let z = taken _ _ c.ranges.third c.in_ok-on_axis-3.ensures in
    record { ok = yes_and _ _ (yes_and _ _ x.1 y.1) z.1 }

pub returns : goal.returns
returns c =
    let x = taken _ _ c.ranges.first c.in_ok-on_axis.ensures in
    let y = taken _ _ c.ranges.second c.in_ok-on_axis-2.ensures in
    let z = taken _ _ c.ranges.third c.in_ok-on_axis-3.ensures in
    place_made _ _ _ _ _ _ x.0 y.0 z.0 _
