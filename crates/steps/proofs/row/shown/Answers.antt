use Rattle.std.proofs.Common.{◌≡◌, ◌∙◌, sym, ap, min, arith, w32, rules}
use Rattle.std.proofs.lemmas.Bool.{both_ways}
use Rattle.std.proofs.lemmas.Int.{to_z-of_z}
use Rattle.std.proofs.lemmas.List.{length-take}
use Rattle.model.specs.Entries.{clean}
use Rattle.steps.proofs.Choosing.{asked, peopled, top, sofar_voteless, sofar_keeps, sofar_takes, sofar_all}
use Rattle.steps.proofs.Fronts.{numbers_front}
use Rattle.steps.proofs.row.shown.Goals as goal
use Rattle.steps.proofs.row.shown.Goals.{then-e-top+then-chooses, else-e-top, else-e-top-via-then-e-top+else-chooses, else-e-top-via-else-e-top}

pub loop-e-preserved-in_default : goal.loop-e-preserved-in_default
loop-e-preserved-in_default g c =
    let m = g.K.Kind.means in
    let entries = c.args.row.now.entries in
    let i = c.loop-e.e-index in
    let here = c.clean-e.ensures ∙ ap clean (numbers_front c.min.result entries i c.loop-e-test.true) in
    sofar_voteless m (g.Q.QuorumRule.means.chooses c.args.rule.now) entries (min c.args.n 7) i _ c.loop-e.invariant
    (ap (λ e. m.value e.code) (sym here) ∙ sym c.value.ensures ∙ c.in_default.is)

pub loop-e-preserved : goal.loop-e-preserved
loop-e-preserved g c =
    let m = g.K.Kind.means in
    let chooses = g.Q.QuorumRule.means.chooses c.args.rule.now in
    let entries = c.args.row.now.entries in
    let n = min c.args.n 7 in
    let i = c.loop-e.e-index in
    let e = c.clean-e.result in
    let here = c.clean-e.ensures ∙ ap clean (numbers_front c.min.result entries i c.loop-e-test.true) in
    let tops : c.map_or-top.result ≡ top c.loop-e.choice = search rules in
    let votes = to_z-of_z w32 e.vote (search rules) in
    let above = to_z-of_z w32 c.map_or-top.result (search rules) ∙ tops in
    let value = sym c.value.ensures ∙ c.in-Some.is in
    let keeps = sofar_keeps m chooses entries n i c.loop-e.choice c.if-e-top.choice c.loop-e.invariant e c.in-Some.v _ _ here votes above value in
    elim c.if-e-top.branch [
      | then-e-top+then-chooses w ↦
          sofar_takes m chooses entries n i c.loop-e.choice c.if-e-top.choice c.loop-e.invariant e c.in-Some.v _ _ here votes above value w.choice-is
          (omega (arith, length-take c.min.result entries)) w.if-e-top.true (asked chooses _ _ _ _ w.voters.ensures w.chooses.ensures w.if-chooses.true)
      | else-e-top w ↦
          elim w.else-e-top.branch [
            | else-e-top-via-then-e-top+else-chooses v ↦ keeps w.choice-is (λ _. asked chooses _ _ _ _ v.voters.ensures v.chooses.ensures v.if-chooses.false)
            | else-e-top-via-else-e-top v ↦ keeps w.choice-is (λ up. absurd (both_ways _ v.if-e-top.false up))
          ]
    ]

pub returns : goal.returns
returns g c =
    let rule = g.Q.QuorumRule.means in
    let q = c.args.rule.now in
    let entries = c.args.row.now.entries in
    sofar_all g.K.Kind.means (rule.chooses q) entries (min c.args.n 7) (peopled rule g.met.Q.QuorumRule.lawful q)
    c.loop-e.e-index c.loop-e.choice (omega (arith, length-take c.min.result entries)) c.loop-e.invariant
