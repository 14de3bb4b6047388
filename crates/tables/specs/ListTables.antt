-- A list table of the code's as the model's.
use Rattle.model.specs.Tables.{Lists}
use Rattle.tables.specs.declared.list_table.ListTable.{ListTable}
use Rattle.tables.specs.Ready.{list_table}

abbrev pub table_of : ListTable → Lists
table_of t = list_table t.count t.end t.firsts.now t.entries.now
