-- What the program prints (document 01, "Sheets worked by hand").
pub mod Text
