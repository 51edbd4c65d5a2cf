-- The parts of a laid out frame, by their lengths. Assumes nothing.
use Rattle.std.proofs.Common.{◌≡◌, ℕ, ◌+◌, ◌*◌, ◌<◌, ◌≤◌, List, [], ◌∷◌, ◌++◌, length, get_or, take, drop, sym, refl, ap, ◌∙◌, append_assoc, arith, length-append}
use Rattle.std.specs.List.{flat_map}
use Rattle.std.proofs.lemmas.List.{take_at, drop_at, drop-drop, take_all, take_more, length-take-le, flat_map_more}
use Rattle.model.specs.declared.entries.Entry.{Entry}
use Rattle.model.specs.Bytes.{written}
use Rattle.model.specs.Entries.{clean}
use Rattle.frames.specs.declared.header.Header.{Header}
use Rattle.frames.specs.Layout.{Heading, Sound, heading_of, four_bytes, entry_bytes, laid_out}

pub length-written : (e : Entry) → length (written e) ≡ 12
unfolding written
length-written e = refl

length-joined : (es : List Entry) → length (flat_map entry_bytes es) ≡ 12 * length es
length-joined [] = refl
length-joined (e ∷ es) = length-append (entry_bytes e) (flat_map entry_bytes es) ∙ omega (arith, length-written (clean e), length-joined es)

pub length-laid_out : (h : Heading) (es : List Entry) → length (laid_out h es) ≡ 4 + 12 * length es
unfolding laid_out
length-laid_out h es = length-append (four_bytes h) (flat_map entry_bytes es) ∙ ap (λ k. 4 + k) (length-joined es)

-- every header is sound
pub sound : (h : Header) → Sound (heading_of h)
sound h = record { some = h.some; few = h.few; sent = h.sent; known = h.known; named = h.named; addressed = h.addressed }

-- a part of k bytes written just past a front
written_past : (front rest part : List ℕ) (at k : ℕ) → length front ≡ at → take at (front ++ rest) ++ (part ++ drop (at + k) (front ++ rest)) ≡ (front ++ part) ++ drop k rest
written_past front rest part at k is =
    let past : drop (at + k) (front ++ rest) ≡ drop k rest = sym (drop-drop k at (front ++ rest)) ∙ ap (drop k) (drop_at front rest at is) in
    (λ i. take_at front rest at is i ++ (part ++ past i)) ∙ sym (append_assoc front part (drop k rest))

-- the buffer once so many entries are written past its first four bytes
abbrev pub partly : List ℕ → List Entry → ℕ → List ℕ
partly old es i = (take 4 old ++ flat_map entry_bytes (take i es)) ++ drop (4 + 12 * i) old

pub partly_more : (old now next : List ℕ) (es : List Entry) (i at : ℕ) (d : Entry) → 4 ≤ length old → i < length es → at ≡ 4 + 12 * i → now ≡ partly old es i → next ≡ take at now ++ (entry_bytes (get_or es i d) ++ drop (at + 12) now) → next ≡ partly old es (i + 1)
partly_more old now next es i at d long in_row place was is =
    let e = get_or es i d in
    let head = take 4 old in
    let front = head ++ flat_map entry_bytes (take i es) in
    let far : length front ≡ 4 + 12 * i = length-append head (flat_map entry_bytes (take i es)) ∙ omega (arith, length-take-le 4 old long, length-joined (take i es), length-take-le i es (omega arith)) in
    let more : front ++ entry_bytes e ≡ head ++ flat_map entry_bytes (take (i + 1) es) = flat_map_more entry_bytes head (take i es) e ∙ ap (λ l. head ++ flat_map entry_bytes l) (sym (take_more es i d in_row)) in
    let step : 4 + 12 * i + 12 ≡ 4 + 12 * (i + 1) = omega arith in
    is ∙ (λ j. take (place j) (was j) ++ (entry_bytes e ++ drop (place j + 12) (was j))) ∙ written_past front (drop (4 + 12 * i) old) (entry_bytes e) (4 + 12 * i) 12 far ∙ (λ j. more j ++ (drop-drop 12 (4 + 12 * i) old ∙ ap (λ k. drop k old) step) j)

pub partly_all : (h : Heading) (out old now : List ℕ) (es : List Entry) (i len : ℕ) → old ≡ four_bytes h ++ drop 4 out → i ≡ length es → len ≡ 4 + 12 * i → now ≡ partly old es i → now ≡ laid_out h es ++ drop len out
unfolding laid_out
partly_all h out old now es i len was last long is =
    let whole : take i es ≡ es = take_all i es (omega arith) in
    let past : drop (4 + 12 * i) (four_bytes h ++ drop 4 out) ≡ drop len out = sym (drop-drop (12 * i) 4 (four_bytes h ++ drop 4 out)) ∙ drop-drop (12 * i) 4 out ∙ ap (λ k. drop k out) (sym long) in
    is ∙ ap (λ b. partly b es i) was ∙ (λ j. (four_bytes h ++ flat_map entry_bytes (whole j)) ++ past j)
