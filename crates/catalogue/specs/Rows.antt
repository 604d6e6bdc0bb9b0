-- What the numbers of a row of the table stand for.
use Rattle.rules.specs.declared.Entry.{Entry}
use Rattle.rules.specs.Grid.{entry}
use Rattle.catalogue.specs.declared.Numbers.{Numbers}

abbrev pub stands_for : Numbers → Entry
stands_for n = entry n.number n.ni n.nj n.la1 n.lo1 n.la2 n.lo2 n.di n.dj n.scan n.rows
