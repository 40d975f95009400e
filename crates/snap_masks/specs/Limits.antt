-- The greatest number of rows of a grid, and the greatest spread of the numbers of a table.
use Rattle.std.specs.Prelude.{ℕ}
use Rattle.snap_masks.specs.declared.column.TheConstants.{ROW_LIMIT, TABLE_LIMIT}

abbrev pub row_limit : ℕ
row_limit = ROW_LIMIT

abbrev pub table_limit : ℕ
table_limit = TABLE_LIMIT
