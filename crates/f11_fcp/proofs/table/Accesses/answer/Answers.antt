use Rattle.std.proofs.Common.{refl}
use Rattle.f11_fcp.proofs.AnswerLemmas.{made-handled, made-windows, made-once, made-of-none, made-run, made-no-run}
use Rattle.f11_fcp.proofs.ByWindowLemmas.{keeps-same, on-ok}
use Rattle.f11_fcp.proofs.table.Accesses.answer.Goals as goal

pub returns-in-Create-clause-handles : goal.returns-in-Create-clause-handles
returns-in-Create-clause-handles g c = made-handled c.in-Create.is refl c.create.ensures.handles

pub returns-in-Create-clause-windows : goal.returns-in-Create-clause-windows
returns-in-Create-clause-windows g c = made-windows _ _ _ _ c.in-Create.is (on-ok _ (keeps-same _))

pub returns-in-Create-clause-once : goal.returns-in-Create-clause-once
returns-in-Create-clause-once g c = made-of-none _ c.in-Create.is refl

pub returns-in-Create-clause-run : goal.returns-in-Create-clause-run
returns-in-Create-clause-run g c = made-no-run c.in-Create.is refl

pub returns-in-Extend-clause-handles : goal.returns-in-Extend-clause-handles
returns-in-Extend-clause-handles g c = made-handled c.in-Extend.is refl c.extend.ensures.handles

pub returns-in-Extend-clause-windows : goal.returns-in-Extend-clause-windows
returns-in-Extend-clause-windows g c = made-windows _ _ _ _ c.in-Extend.is (on-ok _ (keeps-same _))

pub returns-in-Extend-clause-once : goal.returns-in-Extend-clause-once
returns-in-Extend-clause-once g c = made-of-none _ c.in-Extend.is refl

pub returns-in-Extend-clause-run : goal.returns-in-Extend-clause-run
returns-in-Extend-clause-run g c = made-no-run c.in-Extend.is refl

pub returns-in-Contiguous-clause-handles : goal.returns-in-Contiguous-clause-handles
returns-in-Contiguous-clause-handles g c = made-handled c.in-Contiguous.is refl c.contiguous.ensures.handles

pub returns-in-Contiguous-clause-windows : goal.returns-in-Contiguous-clause-windows
returns-in-Contiguous-clause-windows g c = made-windows _ _ _ _ c.in-Contiguous.is (on-ok _ (keeps-same _))

pub returns-in-Contiguous-clause-once : goal.returns-in-Contiguous-clause-once
returns-in-Contiguous-clause-once g c = made-of-none _ c.in-Contiguous.is refl

pub returns-in-Contiguous-clause-run : goal.returns-in-Contiguous-clause-run
returns-in-Contiguous-clause-run g c = made-run c.in-Contiguous.is c.contiguous.ensures.run

pub returns-in-Truncate-clause-handles : goal.returns-in-Truncate-clause-handles
returns-in-Truncate-clause-handles g c = made-handled c.in-Truncate.is refl c.truncate.ensures.handles

pub returns-in-Truncate-clause-windows : goal.returns-in-Truncate-clause-windows
returns-in-Truncate-clause-windows g c = made-windows _ _ _ _ c.in-Truncate.is c.truncate.ensures.windows

pub returns-in-Truncate-clause-once : goal.returns-in-Truncate-clause-once
returns-in-Truncate-clause-once g c = made-of-none _ c.in-Truncate.is refl

pub returns-in-Truncate-clause-run : goal.returns-in-Truncate-clause-run
returns-in-Truncate-clause-run g c = made-no-run c.in-Truncate.is refl

pub returns-in-Delete-clause-handles : goal.returns-in-Delete-clause-handles
returns-in-Delete-clause-handles g c = made-handled c.in-Delete.is refl c.delete.ensures.handles

pub returns-in-Delete-clause-windows : goal.returns-in-Delete-clause-windows
returns-in-Delete-clause-windows g c = made-windows _ _ _ _ c.in-Delete.is c.delete.ensures.windows

pub returns-in-Delete-clause-once : goal.returns-in-Delete-clause-once
returns-in-Delete-clause-once g c = made-of-none _ c.in-Delete.is refl

pub returns-in-Delete-clause-run : goal.returns-in-Delete-clause-run
returns-in-Delete-clause-run g c = made-no-run c.in-Delete.is refl

pub returns-in-GrowIndex-clause-handles : goal.returns-in-GrowIndex-clause-handles
returns-in-GrowIndex-clause-handles g c = made-handled c.in-GrowIndex.is refl c.grow_index.ensures.handles

pub returns-in-GrowIndex-clause-windows : goal.returns-in-GrowIndex-clause-windows
returns-in-GrowIndex-clause-windows g c = made-windows _ _ _ _ c.in-GrowIndex.is (on-ok _ (keeps-same _))

pub returns-in-GrowIndex-clause-once : goal.returns-in-GrowIndex-clause-once
returns-in-GrowIndex-clause-once g c = made-of-none _ c.in-GrowIndex.is refl

pub returns-in-GrowIndex-clause-run : goal.returns-in-GrowIndex-clause-run
returns-in-GrowIndex-clause-run g c = made-no-run c.in-GrowIndex.is refl

pub returns-in-Access-clause-handles : goal.returns-in-Access-clause-handles
returns-in-Access-clause-handles g c = made-handled c.in-Access.is refl c.access.ensures.handles

pub returns-in-Access-clause-windows : goal.returns-in-Access-clause-windows
returns-in-Access-clause-windows g c = made-windows _ _ _ _ c.in-Access.is c.access.ensures.windows

pub returns-in-Access-clause-once : goal.returns-in-Access-clause-once
returns-in-Access-clause-once g c = made-of-none _ c.in-Access.is refl

pub returns-in-Access-clause-run : goal.returns-in-Access-clause-run
returns-in-Access-clause-run g c = made-no-run c.in-Access.is refl

pub returns-in-Deaccess-clause-handles : goal.returns-in-Deaccess-clause-handles
returns-in-Deaccess-clause-handles g c = made-handled c.in-Deaccess.is refl c.deaccess.ensures.handles

pub returns-in-Deaccess-clause-windows : goal.returns-in-Deaccess-clause-windows
returns-in-Deaccess-clause-windows g c = made-windows _ _ _ _ c.in-Deaccess.is c.deaccess.ensures.windows

pub returns-in-Deaccess-clause-once : goal.returns-in-Deaccess-clause-once
returns-in-Deaccess-clause-once g c = made-of-none _ c.in-Deaccess.is refl

pub returns-in-Deaccess-clause-run : goal.returns-in-Deaccess-clause-run
returns-in-Deaccess-clause-run g c = made-no-run c.in-Deaccess.is refl

pub returns-in-Release-clause-handles : goal.returns-in-Release-clause-handles
returns-in-Release-clause-handles g c = made-handled c.in-Release.is refl c.release.ensures.handles

pub returns-in-Release-clause-windows : goal.returns-in-Release-clause-windows
returns-in-Release-clause-windows g c = made-windows _ _ _ _ c.in-Release.is c.release.ensures.windows

pub returns-in-Release-clause-once : goal.returns-in-Release-clause-once
returns-in-Release-clause-once g c = made-of-none _ c.in-Release.is refl

pub returns-in-Release-clause-run : goal.returns-in-Release-clause-run
returns-in-Release-clause-run g c = made-no-run c.in-Release.is refl

pub returns-in-ReadBlock-clause-windows : goal.returns-in-ReadBlock-clause-windows
returns-in-ReadBlock-clause-windows g c = made-windows _ _ _ _ c.in-ReadBlock.is c.read_block.ensures.windows

pub returns-in-ReadBlock-clause-once : goal.returns-in-ReadBlock-clause-once
returns-in-ReadBlock-clause-once g c = made-once c.in-ReadBlock.is c.read_block.ensures.once

pub returns-in-ReadBlock-clause-run : goal.returns-in-ReadBlock-clause-run
returns-in-ReadBlock-clause-run g c = made-no-run c.in-ReadBlock.is refl

pub returns-in-WriteBlock-clause-windows : goal.returns-in-WriteBlock-clause-windows
returns-in-WriteBlock-clause-windows g c = made-windows _ _ _ _ c.in-WriteBlock.is c.write_block.ensures.windows

pub returns-in-WriteBlock-clause-once : goal.returns-in-WriteBlock-clause-once
returns-in-WriteBlock-clause-once g c = made-once c.in-WriteBlock.is c.write_block.ensures.once

pub returns-in-WriteBlock-clause-run : goal.returns-in-WriteBlock-clause-run
returns-in-WriteBlock-clause-run g c = made-no-run c.in-WriteBlock.is refl

pub returns-in-ReadAttr-clause-handles : goal.returns-in-ReadAttr-clause-handles
returns-in-ReadAttr-clause-handles g c = made-handled c.in-ReadAttr.is refl c.read_attr.ensures.handles

pub returns-in-ReadAttr-clause-windows : goal.returns-in-ReadAttr-clause-windows
returns-in-ReadAttr-clause-windows g c = made-windows _ _ _ _ c.in-ReadAttr.is (on-ok _ (keeps-same _))

pub returns-in-ReadAttr-clause-once : goal.returns-in-ReadAttr-clause-once
returns-in-ReadAttr-clause-once g c = made-of-none _ c.in-ReadAttr.is refl

pub returns-in-ReadAttr-clause-run : goal.returns-in-ReadAttr-clause-run
returns-in-ReadAttr-clause-run g c = made-no-run c.in-ReadAttr.is refl

pub returns-in-WriteAttr-clause-handles : goal.returns-in-WriteAttr-clause-handles
returns-in-WriteAttr-clause-handles g c = made-handled c.in-WriteAttr.is refl c.write_attr.ensures.handles

pub returns-in-WriteAttr-clause-windows : goal.returns-in-WriteAttr-clause-windows
returns-in-WriteAttr-clause-windows g c = made-windows _ _ _ _ c.in-WriteAttr.is (on-ok _ (keeps-same _))

pub returns-in-WriteAttr-clause-once : goal.returns-in-WriteAttr-clause-once
returns-in-WriteAttr-clause-once g c = made-of-none _ c.in-WriteAttr.is refl

pub returns-in-WriteAttr-clause-run : goal.returns-in-WriteAttr-clause-run
returns-in-WriteAttr-clause-run g c = made-no-run c.in-WriteAttr.is refl

pub returns-in-Space-clause-handles : goal.returns-in-Space-clause-handles
returns-in-Space-clause-handles g c = made-handled c.in-Space.is refl c.space.ensures.handles

pub returns-in-Space-clause-windows : goal.returns-in-Space-clause-windows
returns-in-Space-clause-windows g c = made-windows _ _ _ _ c.in-Space.is (on-ok _ (keeps-same _))

pub returns-in-Space-clause-once : goal.returns-in-Space-clause-once
returns-in-Space-clause-once g c = made-of-none _ c.in-Space.is refl

pub returns-in-Space-clause-run : goal.returns-in-Space-clause-run
returns-in-Space-clause-run g c = made-no-run c.in-Space.is refl

pub returns-in-Find-clause-handles : goal.returns-in-Find-clause-handles
returns-in-Find-clause-handles g c = made-handled c.in-Find.is refl c.find.ensures.handles

pub returns-in-Find-clause-windows : goal.returns-in-Find-clause-windows
returns-in-Find-clause-windows g c = made-windows _ _ _ _ c.in-Find.is (on-ok _ (keeps-same _))

pub returns-in-Find-clause-once : goal.returns-in-Find-clause-once
returns-in-Find-clause-once g c = made-of-none _ c.in-Find.is refl

pub returns-in-Find-clause-run : goal.returns-in-Find-clause-run
returns-in-Find-clause-run g c = made-no-run c.in-Find.is refl

pub returns-in-Enter-clause-handles : goal.returns-in-Enter-clause-handles
returns-in-Enter-clause-handles g c = made-handled c.in-Enter.is refl c.enter.ensures.handles

pub returns-in-Enter-clause-windows : goal.returns-in-Enter-clause-windows
returns-in-Enter-clause-windows g c = made-windows _ _ _ _ c.in-Enter.is (on-ok _ (keeps-same _))

pub returns-in-Enter-clause-once : goal.returns-in-Enter-clause-once
returns-in-Enter-clause-once g c = made-of-none _ c.in-Enter.is refl

pub returns-in-Enter-clause-run : goal.returns-in-Enter-clause-run
returns-in-Enter-clause-run g c = made-no-run c.in-Enter.is refl

pub returns-in-Remove-clause-handles : goal.returns-in-Remove-clause-handles
returns-in-Remove-clause-handles g c = made-handled c.in-Remove.is refl c.remove.ensures.handles

pub returns-in-Remove-clause-windows : goal.returns-in-Remove-clause-windows
returns-in-Remove-clause-windows g c = made-windows _ _ _ _ c.in-Remove.is (on-ok _ (keeps-same _))

pub returns-in-Remove-clause-once : goal.returns-in-Remove-clause-once
returns-in-Remove-clause-once g c = made-of-none _ c.in-Remove.is refl

pub returns-in-Remove-clause-run : goal.returns-in-Remove-clause-run
returns-in-Remove-clause-run g c = made-no-run c.in-Remove.is refl
