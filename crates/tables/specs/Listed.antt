-- A ready list table of the code's as the model's.
use Rattle.model.specs.Tables.{Lists}
use Rattle.tables.specs.declared.lists.StateLists.{StateLists}
use Rattle.tables.specs.ListTables.{table_of}

abbrev pub lists_of : StateLists → Lists
lists_of l = table_of l.table
