mod Ends
mod Printing
