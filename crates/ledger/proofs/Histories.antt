-- What a ledger held stays held, and an owner's latest entry is one of these. Assumes nothing.
use Rattle.std.proofs.Common.{◌≡◌, ℕ, cond, eqb, ℤ, pos, negsuc, ◌≤ℤ◌, ◌<ℤ◌, sym, refl, ap, subst, inl, inr, ⊎_elim, arith}
use Rattle.std.proofs.lemmas.Int.{ints}
use Rattle.std.proofs.lemmas.Bool.{cond_both, eqb-true, eq-eqb, ne_eqb}
use Rattle.model.specs.Entries.{none}
use Rattle.model.specs.declared.entries.Entry.{Entry}
use Rattle.ledger.specs.Ledgers.{Ledger, empty, saved, latest, Held, newest, older, Past, Cast, Onward, still, onward}
use Rattle.ledger.specs.Growth.{PastRow}

pub past_grows : {L : Ledger} {o a : ℕ} {f e : Entry} → Past L a e → Past (saved L o f) a e
past_grows = ⊎_elim inl (λ h. inr (older h))

pub held_onward : {L M : Ledger} {a : ℕ} {e : Entry} → Onward L M → Held L a e → Held M a e
held_onward still h = h
held_onward (onward w) h = older (held_onward w h)

pub past_onward : {L M : Ledger} {a : ℕ} {e : Entry} → Onward L M → Past L a e → Past M a e
past_onward w = ⊎_elim inl (λ h. inr (held_onward w h))

pub row_onward : {L M : Ledger} {n : ℕ} {row : ℕ → Entry} → Onward L M → PastRow L n row → PastRow M n row
row_onward w past i lt = past_onward w (past i lt)

pub cast_onward : {L M : Ledger} {a : ℕ} {b : ℤ} {v : ℕ} → Onward L M → Cast L a b v → Cast M a b v
cast_onward w c = record { entry = c.entry; held = held_onward w c.held; ballot = c.ballot; votes = c.votes; coded = c.coded }

pub onward_further : {L M N : Ledger} → Onward L M → Onward M N → Onward L N
onward_further w still = w
onward_further w (onward v) = onward (onward_further w v)

-- the newest entry is its owner's latest, and nobody else's changes
pub latest_newest : (L : Ledger) (a : ℕ) (e : Entry) → latest (saved L a e) a ≡ e
latest_newest L a e = ap (λ t. cond t e (latest L a)) (eq-eqb a a refl)

pub latest_other : (L : Ledger) (o a : ℕ) (e : Entry) → (a ≡ o → ⊥) → latest (saved L o e) a ≡ latest L a
latest_other L o a e other = ap (λ t. cond t e (latest L a)) (ne_eqb a o other)

pub latest_past : (L : Ledger) (a : ℕ) → Past L a (latest L a)
latest_past empty a = inl refl
latest_past (saved L o e) a =
    cond_both (eqb a o) e (latest L a) (Past (saved L o e) a)
    (λ is. inr (subst (λ k. Held (saved L o e) k e) (sym (eqb-true a o is)) newest)) (λ _. past_grows (latest_past L a))

-- a vote that is shown was held
pub held_if_voted : {L : Ledger} {a : ℕ} {e : Entry} → Past L a e → pos 0 ≤ℤ e.vote → Held L a e
held_if_voted (inl is) voted = let z = ap (λ e. e.vote) is in absurd (omega (arith, ints))
held_if_voted (inr h) voted = h

-- neither the promise nor the vote is above the other's
pub record Under (e f : Entry) : Type 0 where
  pub promise : e.promise ≤ℤ f.promise
  pub vote : e.vote ≤ℤ f.vote

pub under_itself : (e : Entry) → Under e e
under_itself e = record { promise = omega (arith, ints); vote = omega (arith, ints) }

pub under_further : {e f g : Entry} → Under e f → Under f g → Under e g
under_further a b = record { promise = omega (arith, ints); vote = omega (arith, ints) }

-- the vote is within the promise, and there is no code without a vote
pub record Formed (e : Entry) : Type 0 where
  pub low : negsuc 0 ≤ℤ e.vote
  pub within : e.vote ≤ℤ e.promise
  pub coded : e.vote <ℤ pos 0 → e.code ≡ 0

pub none_formed : (e : Entry) → e ≡ none → Formed e
none_formed e is = subst Formed (sym is) (record { low = omega (arith, ints); within = omega (arith, ints); coded = λ _. refl })

-- where an owner's entry grows, everybody's latest does
pub latest_grows : (L : Ledger) (o : ℕ) (f : Entry) → Under (latest L o) f → (a : ℕ) → Under (latest L a) (latest (saved L o f) a)
latest_grows L o f grows a =
    cond_both (eqb a o) f (latest L a) (Under (latest L a)) (λ is. subst (λ k. Under (latest L k) f) (sym (eqb-true a o is)) grows) (λ _. under_itself (latest L a))
