-- Theorems. Document 01, after "Jobs worked through", as document 02's requests 1 and 2 amend it:
-- what the report program prints for job A, byte by byte, by computation; and for A with an SZ.
use Rattle.std.specs.Prelude.{List, ◌≡◌, refl, ℕ}
use Rattle.job.specs.Job.{size_in}
use Rattle.theory_plan.specs.Own.{own_list}
use Rattle.theory_plan.specs.Plan.{plan}
use Rattle.theory_basics.specs.Text.{ascii, digits}
use Rattle.report.specs.Report.{report_of}
use Rattle.report.specs.Answer.{plan_report}
use Rattle.theory_examples.specs.Worked.{A, A_rows, uneven, uneven_rows}

abbrev listing : List ℕ
listing = ascii "slots 6 chunks 3 held 1\n1 0 0\n2 2 3\n3 1 2\nlayers 2 1\nbytes 5 left 1\nswitch 1\nrate 0 1\n"

-- With the rows (1,2,0,2) (1,2,1,1) (5,3,0,2) the report is the listing,
pub A_rows_report : report_of A A_rows ≡ listing
unfolding report_of digits size_in
A_rows_report = refl

-- and these are the rows of A's plan.
pub A_report : plan_report A ≡ listing
unfolding plan_report report_of digits plan own_list size_in
A_report = refl

-- With chunk 2's base of 3 bytes its line and the sums have them, and A's rows don't carry it.
pub uneven_report :
    plan_report (uneven 2) ≡ ascii "slots 6 chunks 3 held 1\n1 0 0\n2 2 4\n3 1 2\nlayers 2 1\nbytes 6 left 0\nswitch 2\nrate 0 2\n"
unfolding plan_report report_of digits plan own_list size_in
uneven_report = refl

pub uneven_rows_report :
    (report_of (uneven 2) uneven_rows ≡ plan_report (uneven 2))
    × (report_of (uneven 2) A_rows ≡ ascii "slots 6 chunks 3 held 1\n1 0 0\n2 1 1\n3 1 2\nlayers 1 1\nbytes 5 left 1\nswitch 0\nrate 0 0\n")
unfolding plan_report report_of digits plan own_list size_in
uneven_rows_report = (refl, refl)
