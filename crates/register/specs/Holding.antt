-- The rounds that are held between the lines of a script. Assumes nothing.
use Rattle.std.specs.Prelude.{◌≡◌, ℕ, ◌+◌, ◌*◌, Bool, true, false, cond, ◌&&◌, List, replicate, ℤ, is_some, None, vec_items, Option, nat_lt, slice_index_or, slice_set}
use Rattle.std.specs.Option.{option_map}
use Rattle.machine.specs.Board.{Turn}
use Rattle.register.specs.declared.held.Held.{Held}
use Rattle.register.specs.declared.size.Size.{Size}

-- the ballot held at each place, if any
abbrev pub ballots : Held → List (Option ℤ)
ballots held = vec_items held.ballots

-- the ballot held for participant p in cell c, of n participants and so many cells
abbrev pub ballot_at : ℕ → ℕ → List (Option ℤ) → ℕ → ℕ → Option ℤ
ballot_at n cells bs p c = cond (nat_lt p n && nat_lt c cells) (slice_index_or bs (p * cells + c) None) None

-- and the round
abbrev pub round_at : ℕ → ℕ → List (Option ℤ) → ℕ → ℕ → Option Turn
round_at n cells bs p c = option_map (λ b. record { p = p; c = c; b = b }) (ballot_at n cells bs p c)

abbrev pub ballot_for : Held → ℕ → ℕ → Option ℤ
ballot_for held p c = ballot_at held.size.n held.size.cells (ballots held) p c

pub record HoldsNothing (size : Size) (held : Held) : Type 0 where
  pub same : held.size ≡ size
  pub none : ballots held ≡ replicate (size.n * size.cells) None

-- all that changes is what is held for participant p in cell c
pub record Holds (before : Held) (p c : ℕ) (b : Option ℤ) (after : Held) : Type 0 where
  pub same : after.size ≡ before.size
  pub place : ballots after ≡ slice_set (ballots before) (p * before.size.cells + c) b

-- a round that is abandoned is no longer held
abbrev pub Abandons : Held → ℕ → ℕ → Bool → Held → Type 0
Abandons before p c true after = (is_some (ballot_for before p c) ≡ true) × Holds before p c None after
Abandons before p c false after = (ballot_for before p c ≡ None) × (after ≡ before)
