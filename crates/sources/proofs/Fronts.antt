-- The front matter by its places. Assumes nothing.
use Rattle.std.proofs.Common.{◌≡◌, ℕ, zero, suc, ◌+◌, ◌<◌, Ok, refl, arith}
use Rattle.forms.specs.Forms.{tag_of}
use Rattle.sources.specs.Front.{pseudo_form, front_forms}
use Rattle.sources.specs.Sources.{fetched}

pub fetched_front : (n : ℕ) → n < 6 → fetched front_forms n ≡ Ok (pseudo_form (tag_of (n + 1)))
fetched_front zero h = refl
fetched_front (suc zero) h = refl
fetched_front (suc (suc zero)) h = refl
fetched_front (suc (suc (suc zero))) h = refl
fetched_front (suc (suc (suc (suc zero)))) h = refl
fetched_front (suc (suc (suc (suc (suc zero))))) h = refl
fetched_front (suc (suc (suc (suc (suc (suc n)))))) h = absurd (omega arith)
