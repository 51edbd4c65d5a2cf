-- A kept ledger grown by one step of a participant whose latest entry is known. Assumes nothing.
use Rattle.std.proofs.Common.{◌≡◌, ℕ, Bool, true, false, cond, ℤ, ◌<ℤ◌, sym, refl, ap, ◌∙◌, subst, inl, inr, ⊎_elim, arith}
use lib.Signed.{le_z}
use Rattle.std.specs.Int.{int_max}
use Rattle.std.proofs.lemmas.Int.{ints, clamps, by_lt_z}
use Rattle.model.specs.declared.entries.Entry.{Entry}
use Rattle.quorums.specs.Meaning.{RuleMeaning}
use Rattle.steps.specs.Entries.{promising, voting, adopted}
use Rattle.ledger.specs.Ledgers.{Ledger, saved, latest, Past}
use Rattle.ledger.specs.Growth.{owner, PastRow, Promised, Carried, Accepts, Grows, prepares, accepts, receives, Kept, fresh, more}
use Rattle.ledger.proofs.Histories.{latest_past}
use Rattle.ledger.proofs.Laws.{past_formed}

-- an entry that takes over itself is as it was
adopted_itself : (e : Entry) → adopted e e ≡ e
adopted_itself e = go (le_z e.promise e.vote)
  where
    promise : int_max e.promise e.promise ≡ e.promise
    promise = omega (arith, ints, clamps)

    go : (t : Bool) → record { promise = int_max e.promise e.promise; vote = (cond t e e).vote; code = (cond t e e).code } ≡ e
    go true = λ i. record { promise = promise i; vote = e.vote; code = e.code }
    go false = λ i. record { promise = promise i; vote = e.vote; code = e.code }

module _ {Q : Type 0} {m : RuleMeaning Q} {q : Q} {handed : ℕ → Type 0} {L : Ledger} (kept : Kept m q handed L) (a : ℕ) (own : Entry) (is : latest L a ≡ own) where
  pub kept_prepare : (b : ℤ) → own.promise <ℤ b → Kept m q handed (saved L a (promising own b))
  kept_prepare b above = more kept (prepares (record { ballot = b; above = rw is above; becomes = ap (λ e. promising e b) (sym is) }))

  pub kept_receive : {o : ℕ} {s : Entry} → Past L o s → Kept m q handed (saved L a (adopted own s))
  kept_receive {o} {s} past = more kept (receives (record { sender = o; shown = s; past = past; becomes = ap (λ e. adopted e s) (sym is) }))

  -- the same entry stored again
  pub kept_again : Kept m q handed (saved L a own)
  kept_again = subst (λ e. Kept m q handed (saved L a e)) (adopted_itself own) (kept_receive (subst (Past L a) is (latest_past L a)))

  pub kept_accept : (b : ℤ) → owner (m.size q) b ≡ a → own.promise ≡ b → (own.vote ≡ b → ⊥) → (row : ℕ → Entry) → PastRow L (m.size q) row
      → Promised m q row b → (code : ℕ) → Carried m q handed row code → Kept m q handed (saved L a (voting b code))
  kept_accept b owns promised unvoted row past enough code carried =
      let within = (past_formed kept (subst (Past L a) is (latest_past L a))).within in
      let below : own.vote <ℤ b = by_lt_z own.vote b (λ l. l) (λ l. absurd (unvoted (omega (arith, ints)))) in
      more kept (accepts (record {
        ballot = b;
        own = owns;
        promised = ap (λ e. e.promise) is ∙ promised;
        unvoted = rw is below;
        row = row;
        past = past;
        enough = enough;
        code = code;
        carried = carried;
        becomes = refl;
      }))

-- what was handed in stays so
module _ {Q : Type 0} {m : RuleMeaning Q} {q : Q} {handed also : ℕ → Type 0} (wider : (v : ℕ) → handed v → also v) where
  accepts_wider : {L : Ledger} {a : ℕ} {e : Entry} → Accepts m q handed L a e → Accepts m q also L a e
  accepts_wider x =
      record {
        ballot = x.ballot;
        own = x.own;
        promised = x.promised;
        unvoted = x.unvoted;
        row = x.row;
        past = x.past;
        enough = x.enough;
        code = x.code;
        carried = ⊎_elim inl (λ c. inr (c.0, wider x.code c.1)) x.carried;
        becomes = x.becomes;
      }

  grows_wider : {L : Ledger} {a : ℕ} {e : Entry} → Grows m q handed L a e → Grows m q also L a e
  grows_wider (prepares x) = prepares x
  grows_wider (accepts x) = accepts (accepts_wider x)
  grows_wider (receives x) = receives x

  pub kept_wider : {L : Ledger} → Kept m q handed L → Kept m q also L
  kept_wider fresh = fresh
  kept_wider (more kept grows) = more (kept_wider kept) (grows_wider grows)
