-- The command that a line is read as is the one that it spells. Assumes nothing.
use Rattle.std.proofs.Common.{◌≡◌, ℕ, Bool, true, false, cond, List, [], ◌∷◌, map, Some, None, Option, sym, refl, ap, ◌∙◌, subst}
use Rattle.std.specs.List.{All}
use Rattle.std.specs.Str.{bytes_eq}
use Rattle.std.proofs.lemmas.List.Elements.{All-nil, All-cons, All-head, All-tail}
use Rattle.std.proofs.lemmas.Slice.Eq.{bytes_eq-Decides}
use Rattle.script.specs.declared.command.Command.{Command}
use Rattle.script.specs.declared.command.Command.TheVariants.{New, Prepare, Accept, Abandon, Deliver, Read}
use Rattle.script.specs.Numerals.{numeral}
use Rattle.script.specs.Commands.{name, numbers, Spells, ReadsAs, both, numerals, taking, named, called, command_of}

-- each command is found under its name, which is no number
by_name : (c : Command) → (named (name c) (taking (numbers c)) ≡ Some c) × (numeral (name c) ≡ None)
by_name (New n cells) = (refl, refl)
by_name (Prepare p c b) = (refl, refl)
by_name (Accept p c v) = (refl, refl)
by_name (Abandon p c) = (refl, refl)
by_name (Deliver q k) = (refl, refl)
by_name (Read p c) = (refl, refl)

-- the command found among cs has that name, and what each of them has
record Found (w : List ℕ) (P : Command → Type 0) (c : Command) : Type 0 where
  same : w ≡ name c
  holds : P c

found_here : (w : List ℕ) (P : Command → Type 0) (d c : Command) (rest : Option Command) (t : Bool) → bytes_eq w (name d) ≡ t → P d → (rest ≡ Some c → Found w P c) → cond t (Some d) rest ≡ Some c → Found w P c
found_here w P d c rest true e p later h = let q : d ≡ c = cc in record { same = (bytes_eq-Decides w (name d)).0 e ∙ ap name q; holds = subst P q p }
found_here w P d c rest false e p later h = later h

found : (w : List ℕ) (P : Command → Type 0) (cs : List Command) (c : Command) → All P cs → named w cs ≡ Some c → Found w P c
found w P [] c a h = cc
found w P (d ∷ cs) c a h = found_here w P d c (named w cs) (bytes_eq w (name d)) refl (All-head P d cs a) (found w P cs c (All-tail P d cs a)) h

-- the commands that take ns have these numbers
taking_takes : (ns : List ℕ) → All (λ c. numbers c ≡ ns) (taking ns)
taking_takes [] = search All-nil
taking_takes (a ∷ []) = search All-nil
taking_takes (a ∷ b ∷ []) = search (All-cons, All-nil)
taking_takes (a ∷ b ∷ c ∷ []) = search (All-cons, All-nil)
taking_takes (a ∷ b ∷ c ∷ d ∷ ns) = search All-nil

-- words that all are numbers
numerals_from : (ws : List (List ℕ)) (ns : List ℕ) → map numeral ws ≡ map Some ns → numerals ws ≡ Some ns
numerals_from [] [] h = refl
numerals_from [] (n ∷ ns) h = cc
numerals_from (w ∷ ws) [] h = cc
numerals_from (w ∷ ws) (n ∷ ns) h =
    let first : numeral w ≡ Some n = cc in
    let rest : map numeral ws ≡ map Some ns = cc in
    rw (first, numerals_from ws ns rest)

numerals_to : (ws : List (List ℕ)) (ns : List ℕ) → numerals ws ≡ Some ns → map numeral ws ≡ map Some ns
numerals_to [] ns h = let e : [] ≡ ns = cc in ap (map Some) e
numerals_to (w ∷ ws) ns h = go (numeral w) (numerals ws) refl refl (numerals_to ws) h
  where
    go : (o : Option ℕ) (os : Option (List ℕ)) → numeral w ≡ o → numerals ws ≡ os → ((ms : List ℕ) → numerals ws ≡ Some ms → map numeral ws ≡ map Some ms) → both o os ≡ Some ns → numeral w ∷ map numeral ws ≡ map Some ns
    go None os p q rest e = cc
    go (Some n) None p q rest e = cc
    go (Some n) (Some ms) p q rest e = let all : n ∷ ms ≡ ns = cc in rw (p, rest ms q) (ap (map Some) all)

-- a command that is read has that name and those numbers
read_back : (w : List ℕ) (ws : List (List ℕ)) (c : Command) → command_of (w ∷ ws) ≡ Some c → (w ≡ name c) × (numerals ws ≡ Some (numbers c))
read_back w ws c h = go (numerals ws) refl h
  where
    go : (o : Option (List ℕ)) → numerals ws ≡ o → called w o ≡ Some c → (w ≡ name c) × (numerals ws ≡ Some (numbers c))
    go None e h = cc
    go (Some ns) e h = let f = found w (λ d. numbers d ≡ ns) (taking ns) c (taking_takes ns) h in (f.same, e ∙ ap Some (sym f.holds))

spelled : (ps : List (List ℕ)) (c : Command) → command_of ps ≡ Some c → Spells ps c
spelled [] c h = cc
spelled (w ∷ ws) c h = let b = read_back w ws c h in (ws, ap (λ v. v ∷ ws) b.0, numerals_to ws (numbers c) b.1)

-- a command that is spelled is read
spelled_reads : (ps : List (List ℕ)) (c : Command) → Spells ps c → command_of ps ≡ Some c
spelled_reads ps c s = rw (s.1, numerals_from s.0 (numbers c) s.2) (by_name c).0

pub command_law : (ps : List (List ℕ)) (r : Option Command) → r ≡ command_of ps → ReadsAs ps r
command_law ps None e = λ c s. let q = spelled_reads ps c s in cc
command_law ps (Some c) e = (spelled ps c (sym e), λ d s. let q = spelled_reads ps d s in cc)

-- a first word that is a number is no name
none_from_not : (o : Option Command) → ((c : Command) → o ≡ Some c → ⊥) → None ≡ o
none_from_not None h = refl
none_from_not (Some c) h = absurd (h c refl)

pub number_first : (ps : List (List ℕ)) {w : List ℕ} {ws : List (List ℕ)} (n : ℕ) → ps ≡ w ∷ ws → Some n ≡ numeral w → None ≡ command_of ps
number_first ps {w} {ws} n cut h =
    rw cut (none_from_not _ (λ c e. let z : Some n ≡ None = h ∙ ap numeral (read_back w ws c e).0 ∙ (by_name c).1 in cc))
