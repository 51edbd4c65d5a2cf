-- What a line of a script does: its answer, and the session after it. Assumes nothing.
use Rattle.std.specs.Prelude.{◌≡◌, ℕ, ◌*◌, true, false, List, replicate, ℤ, pos, Some, None, Ok, Err, Option, Result, slice_set}
use Rattle.std.specs.Option.{option_map}
use Rattle.kinds.specs.Glyphs.{made_glyph}
use Rattle.kinds.specs.declared.glyph.Glyph.{Glyph}
use Rattle.machine.specs.Board.{Board, Turn, place_of}
use Rattle.machine.specs.Calls.{ReadsOut}
use Rattle.machine.specs.Runs.{Does, prepare, accept, deliver, restart}
use Rattle.model.specs.declared.faults.Fault.{Fault}
use Rattle.model.specs.declared.faults.Fault.TheVariants.{Unfit}
use Rattle.posts.specs.declared.line.Line.{Line}
use Rattle.quorums.specs.declared.majority.Majority.{Majority}
use Rattle.script.specs.declared.command.Command.{Command}
use Rattle.script.specs.declared.command.Command.TheVariants.{New, Prepare, Accept, Abandon, Deliver, Read}
use Rattle.stores.specs.declared.page.PageStore.{PageStore}
use Rattle.register.specs.Benches.{our_makes, bench_board, Laid}
use Rattle.register.specs.Ranges.{in_range}
use Rattle.register.specs.Holding.{ballots, round_at}
use Rattle.answers.specs.declared.Answer.{Answer}
use Rattle.answers.specs.declared.Answer.TheVariants.{Bad, No, NoRound, Done, Kept, Carried, Chosen, Open}
use Rattle.register.specs.declared.desk.Desk.{Desk}
use Rattle.register.specs.declared.session.Session.{Session}

-- a running session: the board, the ballot held at each place, if any, and the buffer
pub record Sitting : Type 0 where
  pub board : Board Majority Line PageStore
  pub held : List (Option ℤ)
  pub buffer : List ℕ

abbrev pub sitting : Desk → Sitting
sitting desk = record { board = bench_board desk.bench; held = ballots desk.held; buffer = desk.buffer }

-- a fault is an answer too
abbrev pub told : Result Answer Fault → Answer
told (Ok answer) = answer
told (Err f) = No f

-- what is told of a call's answer
abbrev pub told_prepare : Result (Turn × ℕ) Fault → Answer
told_prepare (Ok (round, kept)) = Kept kept
told_prepare (Err f) = No f

abbrev pub told_accept : Result (Glyph × ℕ) (Fault × Turn) → Answer
told_accept (Ok (glyph, kept)) = Carried glyph.number kept
told_accept (Err (f, back)) = No f

abbrev pub told_deliver : Result ℕ Fault → Answer
told_deliver (Ok kept) = Kept kept
told_deliver (Err f) = No f

abbrev pub told_restart : Result (Unit {0}) Fault → Answer
told_restart (Ok _) = Done
told_restart (Err f) = No f

abbrev pub told_read : Result (Option (ℤ × Glyph)) Fault → Answer
told_read (Ok (Some (b, glyph))) = Chosen b glyph.number
told_read (Ok None) = Open
told_read (Err f) = No f

-- what is held with another ballot, or none, for participant p in cell c
abbrev pub holding : Sitting → ℕ → ℕ → Option ℤ → List (Option ℤ)
holding x p c b = slice_set x.held (place_of x.board.table p c) b

module _ (x : Sitting) (round : Turn) where
  -- an accept that is taken ends its round, and one that is refused leaves it held
  abbrev pub held_by_accept : Result (Glyph × ℕ) (Fault × Turn) → List (Option ℤ)
  held_by_accept (Ok answer) = holding x round.p round.c None
  held_by_accept (Err refused) = x.held

  pub record AcceptsRound (glyph : Glyph) (a : Answer) (y : Sitting) : Type 0 where
    pub r : Result (Glyph × ℕ) (Fault × Turn)
    pub does : Does our_makes x.board (accept round glyph r) y.board
    pub answer : a ≡ told_accept r
    pub holds : y.held ≡ held_by_accept r
    pub still : y.buffer ≡ x.buffer

  -- 13 comes before the register's own refusals
  abbrev pub AcceptsWish : Result Glyph Fault → Answer → Sitting → Type 0
  AcceptsWish (Err f) a y = (a ≡ No f) × (y ≡ x)
  AcceptsWish (Ok glyph) a y = AcceptsRound glyph a y

module _ (x : Sitting) (p c : ℕ) where
  -- the round held for participant p in cell c
  abbrev pub held_round : Option Turn
  held_round = round_at x.board.table.n x.board.table.cells x.held p c

  -- a prepare that is taken leaves its round held, in place of one held before
  abbrev pub held_by_prepare : Result (Turn × ℕ) Fault → List (Option ℤ)
  held_by_prepare (Ok (round, kept)) = holding x p c (Some round.b)
  held_by_prepare (Err f) = x.held

  pub record PrepareLine (b : ℕ) (a : Answer) (y : Sitting) : Type 0 where
    pub r : Result (Turn × ℕ) Fault
    pub does : Does our_makes x.board (prepare p c (pos b) r) y.board
    pub answer : a ≡ told_prepare r
    pub holds : y.held ≡ held_by_prepare r
    pub still : y.buffer ≡ x.buffer

  -- 0 comes first
  abbrev pub AcceptsIf : Option Turn → ℕ → Answer → Sitting → Type 0
  AcceptsIf None v a y = (a ≡ NoRound) × (y ≡ x)
  AcceptsIf (Some round) v a y = AcceptsWish x round (made_glyph v) a y

  abbrev pub AcceptLine : ℕ → Answer → Sitting → Type 0
  AcceptLine v a y = AcceptsIf held_round v a y

  abbrev pub AbandonsIf : Option Turn → Answer → Sitting → Type 0
  AbandonsIf None a y = (a ≡ NoRound) × (y ≡ x)
  AbandonsIf (Some round) a y = (a ≡ Done) × (y ≡ record { board = x.board; held = holding x p c None; buffer = x.buffer })

  abbrev pub AbandonLine : Answer → Sitting → Type 0
  AbandonLine a y = AbandonsIf held_round a y

  pub record ReadLine (a : Answer) (y : Sitting) : Type 0 where
    pub r : Result (Option (ℤ × Glyph)) Fault
    pub reads : ReadsOut our_makes x.board.table p c r
    pub answer : a ≡ told_read r
    pub still : y ≡ x

pub record DeliverLine (x : Sitting) (q k : ℕ) (a : Answer) (y : Sitting) : Type 0 where
  pub r : Result ℕ Fault
  pub does : Does our_makes x.board (deliver q k x.buffer r y.buffer) y.board
  pub answer : a ≡ told_deliver r
  pub holds : y.held ≡ x.held

-- the rounds held stay held over a restart
pub record RestartLine (x : Sitting) (p : ℕ) (a : Answer) (y : Sitting) : Type 0 where
  pub r : Result (Unit {0}) Fault
  pub does : Does our_makes x.board (restart p r) y.board
  pub answer : a ≡ told_restart r
  pub holds : y.held ≡ x.held
  pub still : y.buffer ≡ x.buffer

-- a line of a running session
abbrev pub Runs : Sitting → Command → Answer → Sitting → Type 0
Runs x (New n cells) a y = (a ≡ Bad) × (y ≡ x)
Runs x (Prepare p c b) a y = PrepareLine x p c b a y
Runs x (Accept p c v) a y = AcceptLine x p c v a y
Runs x (Abandon p c) a y = AbandonLine x p c a y
Runs x (Deliver q k) a y = DeliverLine x q k a y
Runs x (Read p c) a y = ReadLine x p c a y

-- a register that was just set up, and nothing held
pub record Opened (n cells : ℕ) (y : Sitting) : Type 0 where
  pub laid : Laid n cells y.board
  pub none : y.held ≡ replicate (n * cells) None
  pub blank : y.buffer ≡ replicate 88 0

-- a session of n participants and so many cells, where they are in range
abbrev pub Opens : ℕ → ℕ → Option Sitting → Type 0
Opens n cells None = in_range n cells ≡ false
Opens n cells (Some y) = (in_range n cells ≡ true) × Opened n cells y

-- where a session stands
abbrev pub seat : Session → Option Sitting
seat session = option_map sitting session.desk

abbrev pub begun : Option Sitting → Answer
begun None = No Unfit
begun (Some y) = Done

-- a line before the session runs
abbrev pub Begins : Command → Answer → Option Sitting → Type 0
Begins (New n cells) a t = Opens n cells t × (a ≡ begun t)
Begins (Prepare p c b) a t = (a ≡ Bad) × (t ≡ None)
Begins (Accept p c v) a t = (a ≡ Bad) × (t ≡ None)
Begins (Abandon p c) a t = (a ≡ Bad) × (t ≡ None)
Begins (Deliver q k) a t = (a ≡ Bad) × (t ≡ None)
Begins (Read p c) a t = (a ≡ Bad) × (t ≡ None)

-- a command, before and after a `new` that was taken
abbrev pub Obeys : Option Sitting → Command → Answer → Option Sitting → Type 0
Obeys None command a t = Begins command a t
Obeys (Some x) command a None = ⊥
Obeys (Some x) command a (Some y) = Runs x command a y

-- a line that is no command is bad, and changes nothing
abbrev pub Says : Option Sitting → Option Command → Answer → Option Sitting → Type 0
Says s None a t = (a ≡ Bad) × (t ≡ s)
Says s (Some command) a t = Obeys s command a t
