-- The store, room for the longest line, and for the text, which ends with the line that passes 4,096 bytes.
use Rattle.std.specs.Prelude.{ℕ, ◌+◌}

abbrev pub store_size : ℕ
store_size = 65536

abbrev pub room_size : ℕ
room_size = 40

abbrev pub text_size : ℕ
text_size = 4096 + room_size
