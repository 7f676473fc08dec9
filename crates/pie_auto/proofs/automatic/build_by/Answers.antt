use Rattle.std.proofs.Common.{arith}
use Rattle.pie_auto.proofs.automatic.build_by.Goals as goal

pub returns-in-Listed-clause-rest : goal.returns-in-Listed-clause-rest
returns-in-Listed-clause-rest g c = c.build.ensures.files.rest

pub returns-in-Listed-clause-refused : goal.returns-in-Listed-clause-refused
returns-in-Listed-clause-refused g c = c.build.ensures.refuses.refused

pub returns-in-Listed-clause-ran : goal.returns-in-Listed-clause-ran
returns-in-Listed-clause-ran g c = c.build.ensures.runs.ran

pub returns-in-Listed-clause-few : goal.returns-in-Listed-clause-few
returns-in-Listed-clause-few g c = c.build.ensures.runs.few

pub returns-in-Listed-clause-encodable : goal.returns-in-Listed-clause-encodable
returns-in-Listed-clause-encodable g c = c.build.ensures.runs.encodable

pub returns-in-Listed-clause-says : goal.returns-in-Listed-clause-says
returns-in-Listed-clause-says g c = c.build.ensures.refuses.says

pub returns-in-Unlisted-clause-rest : goal.returns-in-Unlisted-clause-rest
returns-in-Unlisted-clause-rest g c = c.build_topdown.ensures.stays.rest

pub returns-in-Unlisted-clause-refused : goal.returns-in-Unlisted-clause-refused
returns-in-Unlisted-clause-refused g c = c.build_topdown.ensures.refuses.refused

pub returns-in-Unlisted-clause-ran : goal.returns-in-Unlisted-clause-ran
returns-in-Unlisted-clause-ran g c = c.build_topdown.ensures.ran.ran

pub returns-in-Unlisted-clause-few : goal.returns-in-Unlisted-clause-few
returns-in-Unlisted-clause-few g c = omega (arith, c.build_topdown.ensures.ran.few)

pub returns-in-Unlisted-clause-encodable : goal.returns-in-Unlisted-clause-encodable
returns-in-Unlisted-clause-encodable g c = c.build_topdown.ensures.ran.encodable

pub returns-in-Unlisted-clause-says : goal.returns-in-Unlisted-clause-says
returns-in-Unlisted-clause-says g c = c.build_topdown.ensures.refuses.says
