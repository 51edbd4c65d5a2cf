use Rattle.std.proofs.Common.{rules, tests, ◌≡◌, ◌-◌, arith, refl}
use Rattle.std.proofs.lemmas.Iterator.{YieldsList-from_slice}
use Rattle.posts.specs.Trays.{tray_items}
use Rattle.posts.proofs.Finding.{finds}
use Rattle.posts.proofs.tray.Tray.find.Goals as goal

-- The closure holds q and the range of those still to be passed over.
pub returns : goal.returns
returns c =
    let all = tray_items c.args.self.now in
    finds _ (λ y. y.now) _ _ c.args.q (λ held k. (held.0.now ≡ c.args.q) × (k ≡ held.1.now.end - held.1.now.start))
    (λ p k x h left call. (h.1.now.end - h.1.now.start, (search rules, refl), search (rules, tests)))
    (λ p k x h left call. (search (rules, tests), search (rules, tests)))
    all c.args.k _ _ _ c.position.result c.position.ensures.ran (YieldsList-from_slice all cc) (refl, omega arith)
