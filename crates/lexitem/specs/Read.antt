-- What reading a line of a kind answers: the kind's record, beside the faults of its table noted one after the other.
use Rattle.field.specs.Table.{table_noted}
use Rattle.line.specs.Faults.{no_faults}
use Rattle.line.specs.Given.{Given}
use Rattle.kind.specs.declared.Kind.{Kind}
use Rattle.lexitem.specs.Describe.{fields_by, item_of}
use Rattle.lexitem.specs.declared.item.LexItem.{LexItem}
use Rattle.line.specs.declared.fault.Got.{Got}

abbrev pub bare_of : LexItem → Got LexItem
bare_of item = record { value = item; faults = no_faults }

abbrev pub got_item : Kind → Given → Got LexItem
got_item k g = record { value = item_of k g; faults = table_noted g (fields_by k g) no_faults }
