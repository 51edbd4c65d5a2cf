-- When three numbers are an entry, and what counts where they are not. Assumes nothing.
use Rattle.std.specs.Prelude.{◌^◌, Bool, cond, ◌&&◌, ◌||◌, pos, negsuc, ◌==◌, int_le, nat_lt}
use Rattle.model.specs.declared.entries.Entry.{Entry}

-- neither a promise nor a vote
abbrev pub none : Entry
none = record { promise = negsuc 0; vote = negsuc 0; code = 0 }

-- ballots from -1 to 16777214, the vote at most the promise, the code below 2^48, and 0 where there is no vote
abbrev pub is_entry : Entry → Bool
is_entry e =
    int_le (negsuc 0) e.vote && int_le e.vote e.promise && int_le e.promise (pos 16777214) && nat_lt e.code (2 ^ 48) && (int_le (pos 0) e.vote || e.code == 0)

-- numbers that are no entry count as none
abbrev pub clean : Entry → Entry
clean e = cond (is_entry e) e none
