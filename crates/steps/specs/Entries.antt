-- What the steps of TPaxos make of an entry. Assumes nothing.
use Rattle.std.specs.Prelude.{ℕ, Bool, cond, ◌||◌, ℤ, int_le, int_lt}
use Rattle.std.specs.Int.{int_max}
use Rattle.model.specs.declared.entries.Entry.{Entry}

-- prepare: a new promise
abbrev pub promising : Entry → ℤ → Entry
promising own b = record { promise = b; vote = own.vote; code = own.code }

-- accept: a vote in the promised ballot
abbrev pub voting : ℤ → ℕ → Entry
voting b code = record { promise = b; vote = b; code = code }

-- receive: promise the larger of two, with the vote of one of them
abbrev joined_to : Entry → Entry → Entry → Entry
joined_to a b voter = record { promise = int_max a.promise b.promise; vote = voter.vote; code = voter.code }

-- the view of a sender takes its larger promise and its later vote
abbrev pub seen : Entry → Entry → Entry
seen view s = joined_to view s (cond (int_lt view.vote s.vote) s view)

-- the own entry takes over a vote that its promise does not forbid
abbrev pub adopted : Entry → Entry → Entry
adopted own s = joined_to own s (cond (int_le own.promise s.vote) s own)

-- the sender's knowledge of the receiver is behind
abbrev pub behind : Entry → Entry → Bool
behind t own = int_lt t.promise own.promise || int_lt t.vote own.vote
