-- The two tables by name.
--     kind_of      the kind of a table, for nr rounds
--     layout_of    the layout of its rows, whatever nr is (`layout_is` of proofs/Scan.antt)
use Rattle.std.specs.Prelude.{ℕ}
use Rattle.verdict.specs.Kind.{Layout, Kind}
use Rattle.verdict.specs.CoreAndRound.{core_layout, round_layout, core_kind, round_kind}
use Rattle.verdict.specs.declared.Table.{Table}
use Rattle.verdict.specs.declared.Table.TheVariants.{Core, Round}

unfoldable pub kind_of : ℕ → Table → Kind
kind_of nr Core = core_kind nr
kind_of nr Round = round_kind

unfoldable pub layout_of : Table → Layout
layout_of Core = core_layout
layout_of Round = round_layout
