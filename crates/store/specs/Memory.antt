-- The memory of a store: letters that the caller moves in and gets back.
use Rattle.std.specs.Prelude.{◌≡◌, ℕ, drop, vec_items, vec_len, vec_capacity, Vec}
use Rattle.std.specs.Vec.{vec_ptr}
use Rattle.std.specs.declared.alloc.Global.{Global}

abbrev pub Memory : Type 0
Memory = Vec ℕ Global

-- the memory is where it was and as long as it was, and its letters past the room are as they were
pub record MemoryKept (room : ℕ) (before after : Memory) : Type 0 where
  pub place : vec_ptr after ≡ vec_ptr before
  pub size : vec_len after ≡ vec_len before
  pub capacity : vec_capacity after ≡ vec_capacity before
  pub past : drop room (vec_items after) ≡ drop room (vec_items before)
