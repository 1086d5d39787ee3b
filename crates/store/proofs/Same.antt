-- Stores with the same memory and the same headers are the same.
use Rattle.std.proofs.Common.{◌≡◌, ◌≤◌, length, vec_len, ap, ◌∙◌}
use Rattle.std.proofs.Math.Bridge.{le_prop}
use Rattle.store.specs.declared.memory_store.MemoryStore.{MemoryStore}
use Rattle.store.specs.Headers.{headers_in}
use Rattle.store.specs.Layouts.{letters_of}
use Rattle.store.specs.Stores.{limits_in}

pub same : {L : _} {g : _} (s : MemoryStore L g) (p : 128 ≤ vec_len s.memory) (q : length (headers_in s.headers) ≤ (limits_in s).sessions) (r : letters_of (headers_in s.headers) ≤ (limits_in s).letters) → ◌≡◌ {A = MemoryStore L g} (record { memory = s.memory; headers = s.headers; layout = s.layout; enough = p; kept = q; room = r }) s
same {L} {g} s p q r =
    ap (λ x. record { memory = s.memory; headers = s.headers; layout = s.layout; enough = x; kept = q; room = r }) (le_prop p s.enough)
    ∙ ap (λ x. record { memory = s.memory; headers = s.headers; layout = s.layout; enough = s.enough; kept = x; room = r }) (le_prop q s.kept)
    ∙ ap (λ x. record { memory = s.memory; headers = s.headers; layout = s.layout; enough = s.enough; kept = s.kept; room = x }) (le_prop r s.room)
