-- The numbers of 01's store, each named once. Assumes nothing.
use Rattle.std.specs.Prelude.{ℕ}

-- "24 header bytes"
abbrev pub header_size : ℕ
header_size = 24

-- "slots 1 to count, 2,560 bytes each"
abbrev pub slot_size : ℕ
slot_size = 2560

-- "slot count u32 (1 to 65,535)"
abbrev pub most_slots : ℕ
most_slots = 65535

-- "depth is at most 7"
abbrev pub most_depth : ℕ
most_depth = 7

-- "u32 node length (8 to 2,480)"
abbrev pub least_node : ℕ
least_node = 8

abbrev pub most_node : ℕ
most_node = 2480
