-- The refusals, each with its layer, its number and its place. Assumes nothing.
use Rattle.std.specs.Prelude.{ℕ}
use Rattle.model.specs.declared.faults.Fault.{Fault}
use Rattle.model.specs.declared.faults.Fault.TheVariants.{Unfit, Nowhere, IsDown, NotItsBallot, PromisedAlready, NotPromised, VotedAlready, TooFew, NoItem, IllFormed, NotForUs, SaveFailed, OutOfRange, NoRule}
use Rattle.model.specs.declared.faults.Layer.{Layer}
use Rattle.model.specs.declared.faults.Layer.TheVariants.{SetUp, Door, Prepare, Accept, Deliver, Reader, Store, Value, Rule}

abbrev pub layer_of : Fault → Layer
layer_of Unfit = SetUp
layer_of Nowhere = Door
layer_of IsDown = Door
layer_of NotItsBallot = Prepare
layer_of PromisedAlready = Prepare
layer_of NotPromised = Accept
layer_of VotedAlready = Accept
layer_of TooFew = Accept
layer_of NoItem = Deliver
layer_of (IllFormed byte) = Reader
layer_of (NotForUs byte) = Reader
layer_of (SaveFailed place) = Store
layer_of OutOfRange = Value
layer_of NoRule = Rule

abbrev pub number_of : Fault → ℕ
number_of Unfit = 1
number_of Nowhere = 2
number_of IsDown = 3
number_of NotItsBallot = 4
number_of PromisedAlready = 5
number_of NotPromised = 6
number_of VotedAlready = 7
number_of TooFew = 8
number_of NoItem = 9
number_of (IllFormed byte) = 10
number_of (NotForUs byte) = 11
number_of (SaveFailed place) = 12
number_of OutOfRange = 13
number_of NoRule = 14

-- a byte of a frame, a place of a store, else 0
abbrev pub place_of : Fault → ℕ
place_of (IllFormed byte) = byte
place_of (NotForUs byte) = byte
place_of (SaveFailed place) = place
place_of _ = 0
