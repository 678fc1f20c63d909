-- The rows that a shelf holds. Assumes nothing.
use Rattle.std.specs.Prelude.{List}
use Rattle.forms.specs.declared.row.FormRow.{FormRow}
use Rattle.forms.specs.declared.row.NamingRow.{NamingRow}
use Rattle.sources.specs.declared.shelf.Shelf.{Shelf}

abbrev pub rows_of : Shelf → List FormRow
rows_of s = s.rows.now

abbrev pub namings_of : Shelf → List NamingRow
namings_of s = s.namings.now
