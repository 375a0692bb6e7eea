use Rattle.readings.proofs.Peeks.{peeks_table, lies_table, peeks_shelf, lies_shelf}
use Rattle.readings.proofs.peek.peek.Goals as goal

pub returns-in-Some-InTable : goal.returns-in-Some-InTable
returns-in-Some-InTable c =
    let store = c.args.store.now in
    let f = c.in-Some.ensures in
    let found = rw c.in-Some-InTable.field-0-is at c.in-Some-InTable.ensures in
    let part = c.version.ensures in
    (peeks_table store.desk.now store.table.now store.shelf.now c.args.ticket.0 store.ready.2 f.0 f.1 part.0 found store.bytes.0, λ n. lies_table store.desk.now store.table.now store.shelf.now c.args.ticket.0 store.ready.2 f.0 f.1 part.1 found)

pub returns-in-Some-OnShelf : goal.returns-in-Some-OnShelf
returns-in-Some-OnShelf c =
    let store = c.args.store.now in
    let f = c.in-Some.ensures in
    let found = rw c.in-Some-OnShelf.field-0-is at c.in-Some-OnShelf.ensures in
    let part = c.version-in-Some-OnShelf.ensures in
    (peeks_shelf store.desk.now store.table.now store.shelf.now c.args.ticket.0 store.ready.2 f.0 f.1 part.0 found store.bytes.1, λ n. lies_shelf store.desk.now store.table.now store.shelf.now c.args.ticket.0 store.ready.2 f.0 f.1 part.1 found)
