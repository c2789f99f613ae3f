-- The tables and windows that a plan file hands over. Assumes nothing.
use Rattle.std.specs.Prelude.{◌≡◌, List, take}
use Rattle.scale.specs.Algebra.{Algebra}
use Rattle.table.specs.Cells.{Holds}
use Rattle.model.specs.declared.bench.Window.{Window}
use Rattle.planfile.specs.declared.spans.Windows.{Windows}
use Rattle.planfile.specs.declared.contents.Contents.{Contents}
use Rattle.planfile.specs.Files.{Description}

abbrev pub windows_in : Windows → List Window
windows_in w = take w.count w.list

-- the tables of the cells, and the windows, that are described
pub record Carries {S : Type 0} (s : Algebra) (d : Description) (c : Contents S) : Type 0 where
  pub left : Holds s d.head.stations d.head.left d.left c.left
  pub right : Holds s d.head.stations d.head.right d.right c.right
  pub lefts : windows_in c.lefts ≡ d.lefts
  pub rights : windows_in c.rights ≡ d.rights
