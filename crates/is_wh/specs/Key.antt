-- tables/is_wh.rs, IsWhKey: the pair that a 64-bit value sends on the IsWh bus.
use Rattle.std.specs.Prelude.{ℕ, ◌/◌, ◌%◌, ◌^◌}
use Rattle.is_wh.specs.declared.IsWhKey.{IsWhKey}

-- bits 32 to 63, and bits 16 to 31
abbrev pub of-dword : ℕ → IsWhKey
of-dword x = record { word = x / 2 ^ 32; half = x / 2 ^ 16 % 2 ^ 16 }
