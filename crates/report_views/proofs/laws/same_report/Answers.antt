use Rattle.report_views.proofs.SameReports.{one_report}
use Rattle.report_views.proofs.laws.same_report.Goals as goal

pub returns : goal.returns
returns c = one_report
