-- What the faults of forms and lines say, case by case.
use Rattle.lexer.specs.declared.fault.Layer.TheVariants as layer
use Rattle.lexer.specs.declared.fault.Report.{Report}
use Rattle.lexer.specs.Faults.{token_report}
use Rattle.syntax.specs.declared.fault.FormFault.{FormFault}
use Rattle.syntax.specs.declared.fault.FormFault.TheVariants as form
use Rattle.syntax.specs.declared.fault.LineFault.{LineFault}
use Rattle.syntax.specs.declared.fault.LineFault.TheVariants as line

abbrev pub form_report : FormFault → Report
form_report (form.Token f) = token_report f
form_report (form.Stray p) = record { number = 3; at = p; layer = layer.Form }
form_report (form.Deep p) = record { number = 4; at = p; layer = layer.Form }
form_report (form.Name p) = record { number = 5; at = p; layer = layer.Form }
form_report (form.Range p) = record { number = 6; at = p; layer = layer.Form }
form_report (form.Nodes p) = record { number = 7; at = p; layer = layer.Form }

abbrev pub line_report : LineFault → Report
line_report (line.Token f) = token_report f
line_report (line.Form f) = form_report f
line_report (line.Stray p) = record { number = 3; at = p; layer = layer.Line }
line_report (line.Name p) = record { number = 5; at = p; layer = layer.Line }
line_report (line.Range p) = record { number = 6; at = p; layer = layer.Line }
