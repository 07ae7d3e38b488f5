-- What opening says of a cut.
use Rattle.tp_tests_threads.specs.Lower.{AllByRecursion, IsNodeOfBytes, t414_ends, Opened, IsCut}

-- the bytes of a device spell it, and each of its nodes
abbrev pub IsSpelt : Opened → Type 0
IsSpelt o = IsCut t414_ends o.head.topology o.base o.cut × AllByRecursion IsNodeOfBytes o.cut.nodes
