-- Worked ledgers, of three participants under the majority rule. Assumes nothing.
use Rattle.std.specs.Prelude.{[], ◌∷◌, pos}
use Rattle.std.specs.List.{Contains}
use Rattle.model.specs.Entries.{none}
use Rattle.quorums.specs.Majorities.{majority}
use Rattle.quorums.specs.declared.majority.Majority.{Majority}
use Rattle.steps.specs.Entries.{promising, voting}
use Rattle.ledger.specs.Ledgers.{Ledger, empty, saved, latest, Onward}
use Rattle.ledger.specs.Growth.{Kept}
use Rattle.ledger.specs.Agreement.{Shown}

abbrev pub three : Majority
three = record { n = 3; ok = tt }

-- 0 prepares its ballot 3 and 1 promises it; 0 accepts code 68, and 1 votes with it
abbrev pub first_round : Ledger
first_round = saved (saved (saved (saved empty 0 (promising none (pos 3))) 1 (promising none (pos 3))) 0 (voting (pos 3) 68)) 1 (voting (pos 3) 68)

-- 2, which has seen nothing of it, prepares its ballot 5; 1 promises that, and its vote has 2 carry 68
abbrev pub second_round : Ledger
second_round =
    saved (saved (saved (saved first_round 2 (promising none (pos 5))) 1 (promising (voting (pos 3) 68) (pos 5))) 2 (voting (pos 5) 68)) 1 (voting (pos 5) 68)

-- 99 was handed in as well, and the second round chooses 68 again
pub record Worked : Type 0 where
  pub kept : Kept majority three (Contains (68 ∷ 99 ∷ [])) second_round
  pub goes_on : Onward first_round second_round
  pub first : Shown majority three first_round (latest first_round) (pos 3) 68
  pub second : Shown majority three second_round (latest second_round) (pos 5) 68
