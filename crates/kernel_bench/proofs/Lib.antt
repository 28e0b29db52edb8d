mod ProductRows
