-- A field, where the fields are borrowed texts.
use Rattle.std.proofs.Common.{◌≡◌, ℕ, ◌<◌, List, [], length, get_or, Bor}
use Rattle.std.proofs.lemmas.List.{get_or-map}
use Rattle.jobs.specs.Fields.{field, texts_in}

pub field_is : (ts : List (Bor (List ℕ))) (k : ℕ) (d : Bor (List ℕ)) → k < length ts → field (texts_in ts) k ≡ (get_or ts k d).now
field_is ts k d h = get_or-map (λ (x : Bor (List ℕ)). x.now) ts k d [] h
