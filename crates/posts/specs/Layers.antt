-- What the layers mean, by what lies below. Assumes nothing.
use Rattle.std.specs.Prelude.{ℕ, Bool, not, ◌&&◌, nat_lt}
use Rattle.model.specs.Sets.{member}
use Rattle.posts.specs.Meaning.{PostMeaning, waiting}
use Rattle.posts.specs.declared.barrier.Barrier.{Barrier}
use Rattle.posts.specs.declared.quota.Quota.{Quota}

-- a layer holds what lies below, and offers it a frame for those only whom it lets through
abbrev pub layered : {L P : Type 0} → (L → P) → (L → (ℕ → Bool) → ℕ → Bool) → PostMeaning P → PostMeaning L
layered below through m =
    record { items = λ layer. m.items (below layer); keeps = λ layer frame to. m.keeps (below layer) frame (through layer to) }

-- who gets past a barrier
abbrev pub past : {P : Type 0} → Barrier P → (ℕ → Bool) → ℕ → Bool
past barrier to q = to q && not (member barrier.shut q)

abbrev pub barred : {P : Type 0} → PostMeaning P → PostMeaning (Barrier P)
barred m = layered (λ barrier. barrier.below) past m

-- who is within a quota: those for whom fewer than the most items wait
abbrev pub spared : {P : Type 0} → PostMeaning P → Quota P → (ℕ → Bool) → ℕ → Bool
spared m quota to q = to q && nat_lt (waiting q (m.items quota.below)) quota.most

abbrev pub rationed : {P : Type 0} → PostMeaning P → PostMeaning (Quota P)
rationed m = layered (λ quota. quota.below) (spared m) m
