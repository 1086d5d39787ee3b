-- A store over memory: what it holds, and what it is to make one.
use Rattle.std.specs.Prelude.{◌≡◌, ◌<◌, ◌≤◌, List, [], vec_items, vec_len}
use Rattle.store.specs.declared.memory_store.MemoryStore.{MemoryStore}
use Rattle.store.specs.declared.too_short.TooShort.{TooShort}
use Rattle.store.specs.declared.limits.Limits.{Limits}
use Rattle.store.specs.Entries.{Entry}
use Rattle.store.specs.Headers.{headers_in}
use Rattle.store.specs.Layouts.{by_len, spread}
use Rattle.store.specs.Memory.{Memory}

module _ {L : _} {g : _} where
  abbrev pub entries_in : MemoryStore L g → List Entry
  entries_in s = spread (by_len g.pitch) (headers_in s.headers) (vec_items s.memory)

  abbrev pub memory_in : MemoryStore L g → Memory
  memory_in s = s.memory

  -- the limits by the letters of the memory
  abbrev pub limits_in : MemoryStore L g → Limits
  limits_in s = g.limits (vec_len s.memory)

  -- a store without entries over the memory, which is as it was
  pub record Made (memory : Memory) (s : MemoryStore L g) : Type 0 where
    pub enough : 128 ≤ vec_len memory
    pub limits : limits_in s ≡ g.limits (vec_len memory)
    pub entries : entries_in s ≡ []
    pub same : memory_in s ≡ memory

-- the memory is too short, and comes back as it was
pub record Refused (memory : Memory) (e : TooShort) : Type 0 where
  pub short : vec_len memory < 128
  pub same : e.memory ≡ memory
