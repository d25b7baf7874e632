-- The arrays of a table have their lengths, as its type says: `own` is what a function is told of a table that it is handed.
-- Assumes nothing.
use mathlib.Core.List.{List}
use mir.Val.{Val}
use denote.Laws.{Is}
use denote.Struct.Declared.{row}
use Rattle.definition.specs.declared.Table.{Table}
use Rattle.definition.specs.contracts.Table.{the_type}
use Rattle.definition.proofs.TableLaws.{Sized}

pub table_sized : (t : Table) (vs : List Val) → Is (row the_type) t vs → Sized t
table_sized t vs own =
    let fields = own.1.1 in
    record {
      slots = fields.1.1.1.0.1.0.1;
      endpoints = fields.1.1.1.1.0.1.0.1;
    }
