-- An entry's bytes read back, and only one string of twelve bytes reads so. Assumes nothing.
use Rattle.std.proofs.Common.{◌≡◌, ℕ, zero, suc, ◌<◌, true, List, ◌++◌, length, take, drop, ℤ, pos, negsuc, sym, refl, ap, ◌∙◌, arith, length-drop, take-append-drop, leb-true}
use lib.Signed.{le_z}
use Rattle.std.specs.Int.Digits.{number_from_digits, AllBelowBase}
use Rattle.std.proofs.lemmas.List.{length-take-le, drop-drop, take_all}
use Rattle.std.proofs.lemmas.Int.{ints}
use Rattle.std.proofs.ByRecursion.{All-take, All-drop}
use Rattle.model.specs.declared.entries.Entry.{Entry}
use Rattle.model.specs.Bytes.{big, raised, lowered, written, spelled}
use Rattle.model.specs.Entries.{is_entry}
use Rattle.model.proofs.Numbers.{number_big, big_number}
use Rattle.model.proofs.Proper.{proper}

raised_lowered : (n : ℕ) → raised (lowered n) ≡ n
raised_lowered zero = refl
raised_lowered (suc n) = refl

-- so many bytes of a longer string
part : (k : ℕ) (bs : List ℕ) → k ≡ length bs → AllBelowBase 256 bs → big k (number_from_digits 256 bs) ≡ bs
part k bs long small = rw long (big_number bs small)

halves : (bs : List ℕ) → length bs ≡ 12 → take 3 bs ++ (take 3 (drop 3 bs) ++ take 6 (drop 6 bs)) ≡ bs
halves bs long =
    let six : take 6 (drop 6 bs) ≡ drop 3 (drop 3 bs) = take_all 6 (drop 6 bs) (omega (arith, length-drop 6 bs)) ∙ sym (drop-drop 3 3 bs) in
    ap (λ l. take 3 bs ++ (take 3 (drop 3 bs) ++ l)) six ∙ ap (λ l. take 3 bs ++ l) (take-append-drop 3 (drop 3 bs)) ∙ take-append-drop 3 bs

pub written_spelled : (bs : List ℕ) → length bs ≡ 12 → AllBelowBase 256 bs → written (spelled bs) ≡ bs
unfolding written spelled
written_spelled bs long small =
    let Small = λ (d : ℕ). d < 256 in
    let front : 3 ≡ length (take 3 bs) = sym (length-take-le 3 bs (omega arith)) in
    let middle : 3 ≡ length (take 3 (drop 3 bs)) = sym (length-take-le 3 (drop 3 bs) (omega (arith, length-drop 3 bs))) in
    let back : 6 ≡ length (take 6 (drop 6 bs)) = sym (length-take-le 6 (drop 6 bs) (omega (arith, length-drop 6 bs))) in
    let p = ap (big 3) (raised_lowered (number_from_digits 256 (take 3 bs))) ∙ part 3 (take 3 bs) front (All-take Small 3 bs small) in
    let v = ap (big 3) (raised_lowered (number_from_digits 256 (take 3 (drop 3 bs)))) ∙ part 3 (take 3 (drop 3 bs)) middle (All-take Small 3 (drop 3 bs) (All-drop Small 3 bs small)) in
    let c = part 6 (take 6 (drop 6 bs)) back (All-take Small 6 (drop 6 bs) (All-drop Small 6 bs small)) in
    (λ i. p i ++ (v i ++ c i)) ∙ halves bs long

-- a ballot or none comes back from its field
field_back : (b : ℤ) → le_z (negsuc 0) b ≡ true → le_z b (pos 16777214) ≡ true → lowered (number_from_digits 256 (big 3 (raised b))) ≡ b
field_back (pos b) low high = ap lowered (number_big 3 (suc b) (omega (arith, leb-true b 16777214 high)))
field_back (negsuc k) low high = ap negsuc (omega (arith, leb-true k 0 low))

pub spelled_written : (e : Entry) → is_entry e ≡ true → spelled (written e) ≡ e
unfolding written spelled
spelled_written e ok =
    let is = proper e ok in
    let p = field_back e.promise (grind (arith, ints)) is.high in
    let v = field_back e.vote is.low (grind (arith, ints)) in
    let c = number_big 6 e.code is.small in
    λ i. record { promise = p i; vote = v i; code = c i }

-- an entry whose numbers were read from the three parts
pub spelled_by : (bs : List ℕ) (e : Entry) → e.promise ≡ lowered (number_from_digits 256 (take 3 bs)) → e.vote ≡ lowered (number_from_digits 256 (take 3 (drop 3 bs))) → e.code ≡ number_from_digits 256 (take 6 (drop 6 bs)) → e ≡ spelled bs
unfolding spelled
spelled_by bs e p v c = λ i. record { promise = p i; vote = v i; code = c i }
