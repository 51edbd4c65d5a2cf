-- What a register, its rows, its store and its post are to the machine. Assumes nothing.
use Rattle.std.specs.Prelude.{List}
use Rattle.machine.specs.Board.{Table, Board, Turn}
use Rattle.model.specs.declared.rows.Row.{Row}
use Rattle.register.specs.declared.register.Register.{Register}
use Rattle.register.specs.declared.round.Round.{Round}

abbrev pub table : {K Q P S : Type 0} → Register K Q P S → List Row → Table Q
table r rows = record { n = r.size.n; cells = r.size.cells; rule = r.rule; down = r.down; rows = rows }

abbrev pub board : {K Q P S : Type 0} → Register K Q P S → List Row → S → P → Board Q P S
board r rows store post = record { table = table r rows; store = store; post = post }

-- a round is its numbers
abbrev pub turn : Round → Turn
turn round = record { p = round.p; c = round.c; b = round.b }
